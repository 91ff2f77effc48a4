use Rattle.history_log.proofs.LawProofs as law
use Rattle.history_log.proofs.laws.cut_record.Goals as goal

pub returns-clause-none : goal.returns-clause-none
returns-clause-none c = law.cut_is_no_record

pub returns-clause-torn : goal.returns-clause-torn
returns-clause-torn c = law.cut_is_torn

pub returns-clause-inner : goal.returns-clause-inner
returns-clause-inner c = law.cut_has_inner_tag
