-- each of the front is spelled
use Rattle.std.proofs.Common.{take}
use Rattle.std.specs.List.{AllByRecursion}
use Rattle.ledger_model.specs.Values.{IsTx}
use Rattle.ledger_model.proofs.batch.show_spelled.Given as goal

abbrev pub invariant-loop-transaction : goal.invariant-loop-transaction
invariant-loop-transaction l = AllByRecursion IsTx (take l.transaction-index l.transactions)
