use Rattle.ledger_laws.proofs.Unforged.{silent_runs_forge_nothing, silent_runs_refine}
use Rattle.ledger_laws.proofs.vacuity.silent_runs_refine.Goals as goal

pub returns-clause-unforged : goal.returns-clause-unforged
returns-clause-unforged c = silent_runs_forge_nothing

pub returns-clause-refine : goal.returns-clause-refine
returns-clause-refine c = silent_runs_refine
