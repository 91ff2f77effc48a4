use Rattle.history_log.proofs.LawProofs as law
use Rattle.history_log.proofs.laws.one_record.Goals as goal

pub returns-clause-begins : goal.returns-clause-begins
returns-clause-begins c = law.written_begins

pub returns-clause-one : goal.returns-clause-one
returns-clause-one c = law.one_record
