use Rattle.ledger_model.proofs.FrameReading.{one_statement, statements_part}
use Rattle.ledger_laws.proofs.laws.statements_part.Goals as goal

pub returns-clause-one : goal.returns-clause-one
returns-clause-one c = one_statement

pub returns-clause-part : goal.returns-clause-part
returns-clause-part c = statements_part
