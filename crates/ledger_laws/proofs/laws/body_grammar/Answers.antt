use Rattle.ledger_model.proofs.FrameReading.{body_reading-spells, body_reading-again}
use Rattle.ledger_laws.proofs.laws.body_grammar.Goals as goal

pub returns-clause-only : goal.returns-clause-only
returns-clause-only c = body_reading-spells

pub returns-clause-every : goal.returns-clause-every
returns-clause-every c = body_reading-again
