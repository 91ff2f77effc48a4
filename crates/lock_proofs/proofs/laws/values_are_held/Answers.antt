use Rattle.lock_proofs.proofs.HeldLocks as lemma
use Rattle.lock_proofs.proofs.laws.values_are_held.Goals as goal

pub returns : goal.returns
returns c = lemma.values_are_held
