use Rattle.history_log.proofs.LawProofs as law
use Rattle.history_log.proofs.laws.growing_log.Goals as goal

pub returns-clause-grown : goal.returns-clause-grown
returns-clause-grown c = law.log_grows

pub returns-clause-last : goal.returns-clause-last
returns-clause-last c = law.last_tag_follows
