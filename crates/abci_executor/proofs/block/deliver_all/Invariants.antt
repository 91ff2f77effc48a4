use Rattle.std.proofs.Common.{take}
use Rattle.ledger_model.specs.Applications.{Machine}
use Rattle.abci.specs.Meaning.{KeepsCommitted}
use Rattle.abci_executor.specs.Blocks.{DeliversAll}
use Rattle.abci_executor.proofs.block.deliver_all.Given as goal

-- the transactions so far are delivered
abbrev pub invariant-loop-tx : goal.invariant-loop-tx
invariant-loop-tx g l =
    let old : Machine = g.A.Application.machine l.initial.app in
    let new : Machine = g.A.Application.machine l.app in
    KeepsCommitted old new × DeliversAll (g.A.Application.meaning) old (take l.tx-index l.transactions) l.codes.items new
