use Rattle.notary_app.specs.Registers.{register}
use Rattle.ledger_laws.proofs.WorldRuns.{runs_refine}
use Rattle.notary_app.proofs.laws.one_register.Goals as goal

pub returns-clause-runs : goal.returns-clause-runs
returns-clause-runs c = runs_refine (λ kind. register)
