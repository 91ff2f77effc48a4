use Rattle.ledger_model.proofs.FrameReading.{reading-spells, reading-again}
use Rattle.ledger_laws.proofs.laws.frame_grammar.Goals as goal

pub returns-clause-only : goal.returns-clause-only
returns-clause-only c = reading-spells

pub returns-clause-every : goal.returns-clause-every
returns-clause-every c = reading-again
