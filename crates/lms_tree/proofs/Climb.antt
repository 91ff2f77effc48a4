-- A path leads up to the root.
use Rattle.std.proofs.Common.{◌≡◌, ℕ, zero, suc, ◌+◌, ◌-◌, ◌*◌, ◌/◌, ◌%◌, ◌^◌, ◌<◌, ◌≤◌, List, ◌++◌, length, take, drop, refl, sym, ap, ◌∙◌}
use Rattle.std.proofs.Common.{arith, inl, inr}
use Rattle.std.specs.Prelude.{if◌then◌else◌, ◌==◌}
use Rattle.std.proofs.lemmas.List.{take_at, drop_at, append_assoc, append-nil, length-append}
use Rattle.std.proofs.lemmas.Bool.{cases_Bool, eqb-true, eqb-false}
use Rattle.std.proofs.Math.Pow.{pow_mono}
use Rattle.ledger_model.specs.Signatures.{Params, node, node_hash, sibling, path, part, root_above}
use Rattle.lms_tree.proofs.NodeTable.{pow-next, length-node, node-inner}

-- one level up
pub root_above-next : (id paths : List ℕ) (levels level r : ℕ) (hash beside above : List ℕ) → level < levels → beside ≡ part paths 0 level
    → above ≡ (if r % 2 == 0 then node_hash id (r / 2) hash beside else node_hash id (r / 2) beside hash)
    → root_above id paths (levels - (level + 1)) (level + 1) (r / 2) above ≡ root_above id paths (levels - level) level r hash
unfolding root_above
root_above-next id paths levels level r hash beside above below at is =
    let n : levels - level ≡ suc (levels - (level + 1)) = omega arith in
    rw (n, is, at) refl

-- no level up
pub root_above-end : (id paths : List ℕ) (levels level r : ℕ) (hash : List ℕ) → levels ≡ level
    → root_above id paths (levels - level) level r hash ≡ hash
unfolding root_above
root_above-end id paths levels level r hash end = let z : levels - level ≡ 0 = omega arith in rw z

-- the hash above a node and the one beside it is that of the node above
climb-node : (p : Params) (id seed : List ℕ) (i r : ℕ) → 1 ≤ r
    → (if r % 2 == 0 then node_hash id (r / 2) (node p id seed i r) (node p id seed i (sibling r))
    else node_hash id (r / 2) (node p id seed i (sibling r)) (node p id seed i r)) ≡ node p id seed (suc i) (r / 2)
climb-node p id seed i r some =
    let up = node-inner p id seed i (r / 2) in
    elim (cases_Bool (r % 2 == 0)) [
      | inl even ↦
          let is : r % 2 ≡ 0 = eqb-true _ _ even in
          let left : 2 * (r / 2) ≡ r = omega arith in
          let right : 2 * (r / 2) + 1 ≡ r + 1 = omega arith in
          rw (even, up, right, left) refl
      | inr odd ↦
          let is : r % 2 ≡ 1 = omega (arith, eqb-false _ _ odd) in
          let left : 2 * (r / 2) ≡ r - 1 = omega arith in
          let right : 2 * (r / 2) + 1 ≡ r = omega arith in
          rw (odd, up, right, left) refl
    ]

-- half of a number between powers
pub half-low : (levels level r : ℕ) → level < levels → 2 ^ (levels - level) ≤ r → 2 ^ (levels - (level + 1)) ≤ r / 2
half-low levels level r below low =
    let e : levels - level ≡ levels - (level + 1) + 1 = omega arith in
    omega (arith, ap (λ k. 2 ^ k) e, pow-next (levels - (level + 1)))

pub half-high : (levels level r : ℕ) → level < levels → r < 2 ^ (levels - level + 1) → r / 2 < 2 ^ (levels - (level + 1) + 1)
half-high levels level r below high =
    let e : levels - level ≡ levels - (level + 1) + 1 = omega arith in
    omega (arith, ap (λ k. 2 ^ (k + 1)) e, pow-next (levels - (level + 1) + 1))

-- a path with one more hash
pub path-next : (p : Params) (id seed : List ℕ) (levels level r : ℕ) (items longer hash : List ℕ) → level < levels → longer ≡ items ++ hash
    → hash ≡ node p id seed level (sibling r)
    → longer ++ path p id seed (levels - (level + 1)) (level + 1) (r / 2) ≡ items ++ path p id seed (levels - level) level r
unfolding path
path-next p id seed levels level r items longer hash below more is =
    let n : levels - level ≡ suc (levels - (level + 1)) = omega arith in
    let rest = path p id seed (levels - (level + 1)) (level + 1) (r / 2) in
    rw (n, more, is) (append_assoc items (node p id seed level (sibling r)) rest)

-- a path that is whole
pub path-end : (p : Params) (id seed : List ℕ) (levels level r : ℕ) (items : List ℕ) → levels ≡ level
    → items ++ path p id seed (levels - level) level r ≡ items
unfolding path
path-end p id seed levels level r items end = let z : levels - level ≡ 0 = omega arith in rw z (append-nil items)

-- from a node on a level, the rest of the path climbs to the root
pub climb : (p : Params) (id seed paths : List ℕ) (n i r : ℕ) (front : List ℕ) → n + i ≡ p.height → 2 ^ n ≤ r → r < 2 ^ (n + 1)
    → length front ≡ 32 * i → paths ≡ front ++ path p id seed n i r
    → root_above id paths n i r (node p id seed i r) ≡ node p id seed p.height 1
unfolding root_above path
climb p id seed paths zero i r front top low high long spelled =
    let e : i ≡ p.height = omega arith in
    let one : r ≡ 1 = omega arith in
    rw (e, one) refl
climb p id seed paths (suc n) i r front level low high long spelled =
    let beside = node p id seed i (sibling r) in
    let rest = path p id seed n (i + 1) (r / 2) in
    let z : 0 + 32 * i ≡ 32 * i = omega arith in
    let at : part paths 0 i ≡ beside =
    ap (λ zs. part zs 0 i) spelled ∙ ap (λ k. take 32 (drop k (front ++ (beside ++ rest)))) z
    ∙ ap (take 32) (drop_at front (beside ++ rest) (32 * i) long) ∙ take_at beside rest 32 (length-node p id seed i (sibling r)) in
    let some : 1 ≤ r = omega (arith, pow_mono {i = 0} {j = suc n} (omega arith)) in
    let up = climb-node p id seed i r some in
    let e : suc n ≡ n + 1 = omega arith in
    let next : suc i ≡ i + 1 = omega arith in
    let low' : 2 ^ n ≤ r / 2 = omega (arith, ap (λ k. 2 ^ k) e, pow-next n) in
    let high' : r / 2 < 2 ^ (n + 1) = omega (arith, ap (λ k. 2 ^ (k + 1)) e, pow-next (n + 1)) in
    ap (λ x. root_above id paths n (i + 1) (r / 2)
    (if r % 2 == 0 then node_hash id (r / 2) (node p id seed i r) x else node_hash id (r / 2) x (node p id seed i r))) at
    ∙ ap (root_above id paths n (i + 1) (r / 2)) (up ∙ ap (λ k. node p id seed k (r / 2)) next)
    ∙ climb p id seed paths n (i + 1) (r / 2) (front ++ beside) (omega arith) low' high'
    (omega (arith, length-append front beside, length-node p id seed i (sibling r))) (spelled ∙ sym (append_assoc front beside rest))
