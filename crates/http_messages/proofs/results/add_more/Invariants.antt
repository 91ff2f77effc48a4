-- the transactions so far are appended
use Rattle.std.proofs.Common.{◌≡◌, ◌++◌, take, ℕ, List}
use Rattle.std.specs.String.{string_bytes}
use Rattle.std.specs.List.{flat_map}
use Rattle.std.specs.Prelude.{codes}
use Rattle.http_messages.specs.Results.{json_tx}
use Rattle.http_messages.proofs.results.add_more.Given as goal

abbrev pub invariant-loop-tx : goal.invariant-loop-tx
invariant-loop-tx l =
    string_bytes l.out ≡ string_bytes l.initial.out
    ++ flat_map (λ (t : List ℕ). codes "," ++ json_tx t) (take l.tx-index l.transactions)
