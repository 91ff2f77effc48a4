use Rattle.ledger_laws.proofs.Refuted.{floor_example}
use Rattle.ledger_laws.proofs.vacuity.committed_height_is_given_up.Goals as goal

pub returns : goal.returns
returns c = floor_example
