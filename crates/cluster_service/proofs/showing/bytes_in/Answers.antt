use Rattle.std.proofs.Common.{◌≡◌, ◌+◌, ◌≤◌, ℕ, [], ◌∷◌, ap, ◌∙◌, min, length, arith}
use Rattle.std.specs.List.{sum_by}
use Rattle.std.specs.Map.Iter.{deref}
use Rattle.std.proofs.lemmas.List.Sums.{sum_by-append}
use Rattle.std.proofs.lemmas.Map.Iter.{rest_all, rest_more}
use Rattle.cluster_service.proofs.showing.bytes_in.Goals as goal

-- one more number was added, and the sum stays at the most
one_added : (b n rest left total most r : ℕ) → left ≡ 0 + n + rest → min (b + left) most ≡ min total most → r ≡ min (b + n) most
    → (r ≤ most) × (min (r + rest) most ≡ min total most)
one_added b n rest left total most r split so is = (omega (arith, is), omega (arith, split, so, is))

-- none is left
all_added : (b total most : ℕ) → b ≤ most → min (b + 0) most ≡ min total most → b ≡ min total most
all_added b total most few so = omega (arith, few, so)

pub loop-tx-preserved : goal.loop-tx-preserved
loop-tx-preserved c =
    let next = rest_more deref _ _ _ _ c.in-Some.is c.next.ensures.steps in
    one_added c.loop-tx.bytes (length c.in-Some.tx.now) (sum_by length c.next.new.self) (sum_by length c.loop-tx.tx-iterator)
    (sum_by length c.args.pool.now) _ _
    (ap (sum_by length) next ∙ sum_by-append length (c.in-Some.tx.now ∷ []) c.next.new.self)
    c.loop-tx.invariant.1
    (c.saturating_add-bytes.ensures ∙ ap (λ l. min (c.loop-tx.bytes + length l) _) c.as_bytes.ensures.bytes)

pub returns : goal.returns
returns c =
    let end = rest_all deref _ _ _ c.in-None.is c.next.ensures.steps in
    all_added c.loop-tx.bytes (sum_by length c.args.pool.now) _ c.loop-tx.invariant.0 (rw end at c.loop-tx.invariant.1)
