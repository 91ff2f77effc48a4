-- the transactions so far are appended
use Rattle.std.proofs.Common.{◌≡◌, ℕ, List, ◌++◌, take}
use Rattle.std.specs.Prelude.{codes}
use Rattle.std.specs.List.{flat_map}
use Rattle.run_picture.specs.Xml.{tx_xml}
use Rattle.run_picture.proofs.xml.add_more.Given as goal

abbrev pub invariant-loop-transaction : goal.invariant-loop-transaction
invariant-loop-transaction l =
    l.out.items ≡ l.fn.out.items ++ flat_map (λ (t : List ℕ). codes "," ++ tx_xml t) (take l.transaction-index l.transactions)
