-- The table of nodes.
use Rattle.std.proofs.Common.{◌≡◌, ℕ, zero, suc, ◌+◌, ◌-◌, ◌*◌, ◌/◌, ◌^◌, ◌<◌, ◌≤◌, List, [], length, get_or, set, refl, sym, ap, subst}
use Rattle.std.proofs.Common.{◌∙◌, arith, inl, inr}
use Rattle.std.proofs.lemmas.List.{get_or-set_same, get_or-set_other, length-set}
use Rattle.std.proofs.lemmas.Bool.{cases_eq, cases_lt}
use Rattle.std.proofs.lemmas.Grind.{pow_more}
use Rattle.std.proofs.Math.Pow.{pow_mono}
use Rattle.std.proofs.lemmas.Bool.Decides.{nat_tests}
use Rattle.sha2.proofs.Facts256.{length-sha256}
use Rattle.ledger_model.specs.Signatures.{Params, leaf_key, leaf_hash, node_hash, node, sibling}
use Rattle.lm_ots.specs.declared.params.TreeHeight.{TreeHeight}
use Rattle.lm_ots.specs.declared.params.TreeHeight.TheVariants.{H5, H10}
use Rattle.lm_ots.specs.Parameters.{levels_of}
use Rattle.lms_tree.specs.Trees.{KeepsNodes}

-- twice a power is the next one
pub pow-next : (k : ℕ) → 2 ^ (k + 1) ≡ 2 * 2 ^ k
pow-next k = omega (arith, pow_more 2 k)

pub length-node : (p : Params) (id seed : List ℕ) (n r : ℕ) → length (node p id seed n r) ≡ 32
unfolding node leaf_hash node_hash
length-node p id seed zero r = length-sha256 _
length-node p id seed (suc n) r = length-sha256 _

-- the leaf number q
pub node-leaf : (p : Params) (id seed : List ℕ) (q : ℕ)
    → leaf_hash id (2 ^ p.height + q) (leaf_key p id seed q) ≡ node p id seed 0 (2 ^ p.height + q)
unfolding node
node-leaf p id seed q =
    let e : 2 ^ p.height + q - 2 ^ p.height ≡ q = omega arith in
    rw e

-- a node of the two below it
pub node-inner : (p : Params) (id seed : List ℕ) (n r : ℕ)
    → node p id seed (suc n) r ≡ node_hash id r (node p id seed n (2 * r)) (node p id seed n (2 * r + 1))
unfolding node
node-inner p id seed n r = refl

-- once all leaves are there, so are the nodes from the first leaf on
pub keeps-leaves : (p : Params) (id seed : List ℕ) (leaves : ℕ) (nodes : List (List ℕ)) → leaves ≡ 2 ^ p.height → length nodes ≡ 2 * leaves
    → ((q : ℕ) → q < leaves → get_or nodes (leaves + q) [] ≡ node p id seed 0 (leaves + q)) → KeepsNodes p id seed leaves nodes
keeps-leaves p id seed leaves nodes first long all = record {
  whole = omega (arith, long);
  hashes = λ n d r level low high from.
      elim n as (λ k. k + d ≡ p.height → get_or nodes r [] ≡ node p id seed k r) [
        | zero ↦ λ at_leaves.
            let e : d ≡ p.height = omega arith in
            let top : r < 2 * leaves = omega (arith, ap (λ k. 2 ^ k) e, pow-next d) in
            let back : leaves + (r - leaves) ≡ r = omega arith in
            let P : ℕ → Type 0 = λ k. get_or nodes k [] ≡ node p id seed 0 k in
            subst P back (all (r - leaves) (omega arith))
        | suc k ↦ λ above. absurd (omega (arith, pow_mono {i = d + 1} {j = p.height} (omega arith)))
      ] level;
}

-- the hash of two that are there is that of the node above them
made : (p : Params) (id seed : List ℕ) (r : ℕ) (nodes : List (List ℕ)) → 1 ≤ r → r < 2 ^ p.height → KeepsNodes p id seed (r + 1) nodes
    → (n d : ℕ) → n + d ≡ p.height → 2 ^ d ≤ r → r < 2 ^ (d + 1)
    → node_hash id r (get_or nodes (2 * r) []) (get_or nodes (2 * r + 1) []) ≡ node p id seed n r
made p id seed r nodes some inner kept zero d level low high =
    let e : d ≡ p.height = omega arith in
    absurd (omega (arith, ap (λ k. 2 ^ k) e))
made p id seed r nodes some inner kept (suc n) d level low high =
    let one = pow-next d in
    let two = pow-next (d + 1) in
    let left = kept.hashes n (d + 1) (2 * r) (omega arith) (omega arith) (omega arith) (omega arith) in
    let right = kept.hashes n (d + 1) (2 * r + 1) (omega arith) (omega arith) (omega arith) (omega arith) in
    ap (λ x. node_hash id r x (get_or nodes (2 * r + 1) [])) left
    ∙ ap (λ y. node_hash id r (node p id seed n (2 * r)) y) right
    ∙ sym (node-inner p id seed n r)

-- one node more, above two that are there
pub keeps-more : (p : Params) (id seed : List ℕ) (r : ℕ) (nodes : List (List ℕ)) (hash : List ℕ) → 1 ≤ r → r < 2 ^ p.height
    → KeepsNodes p id seed (r + 1) nodes → hash ≡ node_hash id r (get_or nodes (2 * r) []) (get_or nodes (2 * r + 1) [])
    → KeepsNodes p id seed r (set nodes r hash)
keeps-more p id seed r nodes hash some inner kept is = record {
  whole = length-set nodes r hash ∙ kept.whole;
  hashes = λ n d s level low high from.
      elim (cases_eq s r) [
        | inl same ↦
            let P : ℕ → Type 0 = λ k. get_or (set nodes r hash) k [] ≡ node p id seed n k in
            let low' : 2 ^ d ≤ r = omega arith in
            let high' : r < 2 ^ (d + 1) = omega arith in
            let inside : r < length nodes = omega (arith, kept.whole) in
            subst P (sym same) (get_or-set_same nodes r hash [] inside ∙ is ∙ made p id seed r nodes some inner kept n d level low' high')
        | inr other ↦ get_or-set_other nodes r s hash [] other ∙ kept.hashes n d s level low high (omega arith)
      ];
}

-- the node beside one below the root is on its level
pub sibling-low : (d r : ℕ) → 2 ^ (d + 1) ≤ r → r < 2 ^ (d + 1 + 1) → 2 ^ (d + 1) ≤ sibling r
sibling-low d r low high =
    let one = pow-next d in
    let two = pow-next (d + 1) in
    grind (arith, nat_tests)

pub sibling-high : (d r : ℕ) → 2 ^ (d + 1) ≤ r → r < 2 ^ (d + 1 + 1) → sibling r < 2 ^ (d + 1 + 1)
sibling-high d r low high =
    let one = pow-next d in
    let two = pow-next (d + 1) in
    grind (arith, nat_tests)

-- the leaves are this number of rows of eight
pub whole-rows : (h : TreeHeight) → 8 * (2 ^ levels_of h / 8) ≡ 2 ^ levels_of h
whole-rows H5 = refl
whole-rows H10 = refl

-- eight leaves more
pub leaves-more : (p : Params) (id seed : List ℕ) (leaves leaf : ℕ) (nodes after keys : List (List ℕ)) → leaves ≡ 2 ^ p.height
    → ((q : ℕ) → q < leaf → get_or nodes (leaves + q) [] ≡ node p id seed 0 (leaves + q))
    → ((k : ℕ) → k < 8 → get_or after (leaves + leaf + k) [] ≡ leaf_hash id (leaves + leaf + k) (get_or keys k []))
    → ((k : ℕ) → k < 8 → get_or keys k [] ≡ leaf_key p id seed (leaf + k))
    → ((r : ℕ) → r < leaves + leaf → get_or after r [] ≡ get_or nodes r [])
    → (q : ℕ) → q < leaf + 8 → get_or after (leaves + q) [] ≡ node p id seed 0 (leaves + q)
leaves-more p id seed leaves leaf nodes after keys first kept put are others q below =
    elim (cases_lt q leaf) [
      | inl before ↦ others (leaves + q) (omega arith) ∙ kept q before
      | inr new ↦
          let k = q - leaf in
          let low : k < 8 = omega arith in
          let on : leaf + k ≡ q = omega arith in
          let at : leaves + leaf + k ≡ leaves + q = omega arith in
          let P : ℕ → Type 0 = λ r. get_or after r [] ≡ leaf_hash id r (leaf_key p id seed q) in
          let made = ap (λ r. leaf_hash id (r + q) (leaf_key p id seed q)) first ∙ node-leaf p id seed q
          ∙ ap (λ r. node p id seed 0 (r + q)) (sym first) in
          subst P at (put k low ∙ ap (leaf_hash id (leaves + leaf + k)) (are k low ∙ ap (leaf_key p id seed) on)) ∙ made
    ]

-- the node beside one that has a node above it is on its level
pub record IsBeside (levels level r s : ℕ) : Type 0 where
  pub low : 2 ^ (levels - level) ≤ s
  pub high : s < 2 ^ (levels - level + 1)
  pub inside : s < 2 * 2 ^ levels
  pub some : 1 ≤ s

pub beside : (levels level r : ℕ) → level < levels → 2 ^ (levels - level) ≤ r → r < 2 ^ (levels - level + 1)
    → IsBeside levels level r (sibling r)
beside levels level r below low high =
    let d = levels - level - 1 in
    let e : levels - level ≡ d + 1 = omega arith in
    let at = ap (λ k. 2 ^ k) e in
    let next = ap (λ k. 2 ^ (k + 1)) e in
    let twice : 2 ^ (d + 1 + 1) ≡ 2 * 2 ^ (d + 1) = pow-next (d + 1) in
    let is_low = sibling-low d r (omega arith) (omega (arith, pow-next (d + 1))) in
    let is_high = sibling-high d r (omega arith) (omega (arith, pow-next (d + 1))) in
    record {
      low = omega arith;
      high = omega (arith, pow-next (d + 1));
      inside = omega (arith, pow-next (d + 1), pow_mono {i = d + 1} {j = levels} (omega arith));
      some = omega (arith, pow_mono {i = 0} {j = d + 1} (omega arith));
    }
