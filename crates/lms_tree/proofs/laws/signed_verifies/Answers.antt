use Rattle.lms_tree.proofs.Law as law
use Rattle.lms_tree.proofs.laws.signed_verifies.Goals as goal

pub returns : goal.returns
returns c = law.signed_verifies
