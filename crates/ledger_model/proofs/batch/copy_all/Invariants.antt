-- what is copied so far is the front of the transactions
use Rattle.std.proofs.Common.{◌≡◌, take}
use Rattle.ledger_model.proofs.batch.copy_all.Given as goal

abbrev pub invariant-loop-transaction : goal.invariant-loop-transaction
invariant-loop-transaction l = l.copied.items ≡ take l.transaction-index l.transactions
