use Rattle.ledger_model.proofs.FrameReading.{statement_reading-spells, statement_reading-again}
use Rattle.ledger_laws.proofs.laws.statement_grammar.Goals as goal

pub returns-clause-only : goal.returns-clause-only
returns-clause-only c = statement_reading-spells

pub returns-clause-every : goal.returns-clause-every
returns-clause-every c = statement_reading-again
