use Rattle.lock_proofs.proofs.TakenLocks as lemma
use Rattle.lock_proofs.proofs.laws.takes_a_lock.Goals as goal

pub returns : goal.returns
returns c = lemma.takes_a_lock
