-- The application inside commits.
use Rattle.app_kinds.proofs.refusing.RefusingApplication.commit.Goals as goal

pub returns-clause-commits : goal.returns-clause-commits
returns-clause-commits g c = rw (← c.self.view_is) c.commit.ensures
