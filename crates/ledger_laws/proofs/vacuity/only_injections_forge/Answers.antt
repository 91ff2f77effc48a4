use Rattle.ledger_laws.proofs.Unforged.{only_injections_forge}
use Rattle.ledger_laws.proofs.vacuity.only_injections_forge.Goals as goal

pub returns : goal.returns
returns c = only_injections_forge
