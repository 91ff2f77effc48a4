use Rattle.std.proofs.Common.{◌≡◌, ◌∷◌, ◌++◌, length, take}
use Rattle.std.specs.List.{flat_map}
use Rattle.statements.proofs.encoding.put_batch.Given as goal

abbrev pub invariant-loop-tx : goal.invariant-loop-tx
invariant-loop-tx l = l.out.items ≡ l.fn.out.items ++ length l.transactions
    ∷ flat_map (λ tx. length tx ∷ tx) (take l.tx-index l.transactions)
