use Rattle.lock_proofs.proofs.ReleasedLocks as lemma
use Rattle.lock_proofs.proofs.laws.releases_locks.Goals as goal

pub returns : goal.returns
returns c = lemma.releases_locks
