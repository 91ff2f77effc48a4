-- the transactions so far are added
use Rattle.std.proofs.Common.{◌≡◌, ◌++◌, take}
use Rattle.std.specs.Prelude.{codes}
use Rattle.std.specs.List.{flat_map}
use Rattle.plain_text.specs.Transactions.{bytes_text}
use Rattle.printed_lines.proofs.text.Text.add_more.Given as goal

abbrev pub invariant-loop-transaction : goal.invariant-loop-transaction
invariant-loop-transaction l = l.self ≡ l.fn.self ++ flat_map (λ t. codes "," ++ bytes_text t) (take l.transaction-index l.transactions)
