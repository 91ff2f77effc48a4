use Rattle.lock_proofs.proofs.KeptLocks as lemma
use Rattle.lock_proofs.proofs.laws.keeps_locks.Goals as goal

pub returns : goal.returns
returns c = lemma.keeps_locks
