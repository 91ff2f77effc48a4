use Rattle.ledger_model.specs.Applications.{Machine}
use Rattle.abci_executor.proofs.Blocks.{stays_on, goes_on, delivers_none, delivers_next}
use Rattle.abci_executor.proofs.block.deliver_all.Goals as goal

pub loop-tx-init : goal.loop-tx-init
loop-tx-init g c =
    let old : Machine = g.A.Application.machine c.args.app.now in
    (stays_on old c.requires.begun, rw c.requires.empty (delivers_none (g.A.Application.meaning) old c.requires.begun))

pub loop-tx-preserved : goal.loop-tx-preserved
loop-tx-preserved g c =
    let old : Machine = g.A.Application.machine c.args.app.now in
    let mid : Machine = g.A.Application.machine c.loop-tx.app in
    let new : Machine = g.A.Application.machine c.deliver_tx.new.self in (
      goes_on old mid new (c.loop-tx.invariant.0) c.in_ok-code.ensures.goes_on,
      delivers_next (g.A.Application.meaning) old mid new c.args.transactions.now c.loop-tx.tx-index c.tx-item.result c.loop-tx.codes.items
          c.push.new.self.items
          c.in_ok-code.code
          c.loop-tx-test.true c.tx-item.is c.in_ok-push.ensures.items (c.loop-tx.invariant.1) c.in_ok-code.ensures.ok,
    )
