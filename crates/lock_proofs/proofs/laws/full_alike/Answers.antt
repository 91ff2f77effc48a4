use Rattle.lock_proofs.proofs.HeldLocks as lemma
use Rattle.lock_proofs.proofs.laws.full_alike.Goals as goal

pub returns : goal.returns
returns c = lemma.full_alike
