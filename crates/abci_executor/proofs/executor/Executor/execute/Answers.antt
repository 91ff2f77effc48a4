use Rattle.std.proofs.Common.{subst, IfOk}
use Rattle.ledger_model.specs.Applications.{Machine}
use Rattle.abci.specs.Meaning.{without_work}
use Rattle.abci_executor.specs.Blocks.{AddsBlock}
use Rattle.abci_executor.proofs.Blocks.{adds_between, reached_after}
use Rattle.abci_executor.proofs.executor.Executor.execute.Goals as goal

pub invariant_of-self : goal.invariant_of-self
invariant_of-self g c =
    reached_after (g.A.Application.meaning) (g.A.Application.machine c.self.inside.app)
    (g.A.Application.machine c.run_block.new.app) _ c.run_block.result
    c.self.invariant
    c.run_block.ensures.ok c.run_block.ensures.err

pub returns-clause-ok : goal.returns-clause-ok
returns-clause-ok g c =
    let new : Machine = g.A.Application.machine c.run_block.new.app in
    subst (λ (m : Machine). IfOk c.run_block.result (λ block. AddsBlock (g.A.Application.meaning) m c.args.batch.now block
    (without_work new))) c.self.view_is
    (adds_between (g.A.Application.meaning) (without_work (g.A.Application.machine c.self.inside.app)) new c.args.batch.now
    c.run_block.result c.run_block.ensures.ok)
