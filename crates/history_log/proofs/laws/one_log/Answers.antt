use Rattle.history_log.proofs.LawProofs as law
use Rattle.history_log.proofs.laws.one_log.Goals as goal

pub returns : goal.returns
returns c = law.one_records
