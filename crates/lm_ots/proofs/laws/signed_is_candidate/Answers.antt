use Rattle.lm_ots.proofs.Law as law
use Rattle.lm_ots.proofs.laws.signed_is_candidate.Goals as goal

pub returns : goal.returns
returns c = law.signed_is_candidate
