-- The most bytes of an encoded batch.
use Rattle.std.proofs.Common.{ℕ, ◌*◌, ◌≤◌, List, [], ◌∷◌, length, ap, arith}
use Rattle.std.specs.List.{flat_map, AllByRecursion}
use Rattle.std.proofs.lemmas.List.{length-append}
use Rattle.std.proofs.lemmas.List.Concat.{flat_map-cons}
use Rattle.ledger_model.specs.Values.{Value, value_bytes, IsTx, IsValue}

-- transactions, each with its length in front
txs_bound : (v : Value) → AllByRecursion IsTx v → length (flat_map (λ tx. length tx ∷ tx) v) ≤ 65 * length v
txs_bound [] all = omega arith
txs_bound (tx ∷ v) all =
    omega (
      arith,
      all.0.short,
      txs_bound v all.1,
      ap length (flat_map-cons (λ (tx : List ℕ). length tx ∷ tx) tx v),
      length-append
          (length tx ∷ tx) (flat_map (λ tx. length tx ∷ tx) v),
    )

-- a batch
pub value_bound : (v : Value) → IsValue v → length (value_bytes v) ≤ 4161
value_bound v is = omega (arith, is.few, txs_bound v is.each)
