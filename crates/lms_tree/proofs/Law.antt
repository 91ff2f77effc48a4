-- A signature verifies.
use Rattle.std.proofs.Common.{◌≡◌, ℕ, zero, suc, ◌+◌, ◌*◌, ◌/◌, ◌^◌, ◌<◌, List, [], ◌++◌, length, take, drop, refl, sym, ap, ◌∙◌, arith}
use Rattle.std.specs.Prelude.{Some}
use Rattle.std.specs.Int.{w32, to_be_bytes, from_be_bytes}
use Rattle.std.proofs.lemmas.List.{take_at, drop_at, append_assoc, length-append}
use Rattle.std.proofs.lemmas.Nat.{from_be_bytes-to_be_bytes_4}
use Rattle.std.proofs.Math.Pow.{pow_mono}
use Rattle.ledger_model.specs.Signatures.{params_of, ots_len, signature_len, leaf_signature, leaf_candidate, leaf_hash, node, path}
use Rattle.ledger_model.specs.Signatures.{public_key, root_above, sibling, signature_of, bytes_same}
use Rattle.lm_ots.specs.declared.params.Params.{Params}
use Rattle.lm_ots.specs.declared.params.Width.{Width}
use Rattle.lm_ots.specs.declared.params.Width.TheVariants.{W4, W8}
use Rattle.lm_ots.specs.declared.params.TreeHeight.{TreeHeight}
use Rattle.lm_ots.specs.declared.params.TreeHeight.TheVariants.{H5, H10}
use Rattle.lm_ots.specs.Parameters.{numbers_of, lms_code_of, ots_code_of, levels_of}
use Rattle.lm_ots.proofs.Law.{signed_is_candidate, length-leaf_signature, take-leaf_signature}
use Rattle.lms_tree.specs.Keys.{scheme_of}
use Rattle.lms_tree.specs.Laws.{SignedVerifies}
use Rattle.lms_tree.proofs.NodeTable.{length-node, node-leaf, pow-next}
use Rattle.lms_tree.proofs.Climb.{climb}
use Rattle.lms_tree.proofs.Checks.{IsCut, checked, bytes_same-refl}

named : (w : Width) (h : TreeHeight) → params_of (lms_code_of h) (ots_code_of w) ≡ Some (numbers_of (record { width = w; height = h }))
named W4 H5 = refl
named W4 H10 = refl
named W8 H5 = refl
named W8 H10 = refl

small_codes : (w : Width) (h : TreeHeight) → (lms_code_of h < 2 ^ 32) × (ots_code_of w < 2 ^ 32)
small_codes W4 H5 = (omega arith, omega arith)
small_codes W4 H10 = (omega arith, omega arith)
small_codes W8 H5 = (omega arith, omega arith)
small_codes W8 H10 = (omega arith, omega arith)

-- a height is below 32
low_height : (h : TreeHeight) → levels_of h < 32
low_height H5 = omega arith
low_height H10 = omega arith

length-path : (p : Params) (id seed : List ℕ) (n i r : ℕ) → length (path (numbers_of p) id seed n i r) ≡ 32 * n
unfolding path
length-path p id seed zero i r = refl
length-path p id seed (suc n) i r =
    let n' = numbers_of p in
    omega (
      arith,
      length-append (node n' id seed i (sibling r)) (path n' id seed n (i + 1) (r / 2)),
      length-node n' id seed i (sibling r),
      length-path p id seed n (i + 1) (r / 2),
    )

-- the parts of what is signed
cut : (p : Params) (id seed : List ℕ) (q : ℕ) (message : List ℕ) → q < 2 ^ 32
    → IsCut (numbers_of p) (signature_of (numbers_of p) id seed q message) q (numbers_of p).lms_code
    (leaf_signature (numbers_of p) id seed q message)
    (path (numbers_of p) id seed (numbers_of p).height 0 (2 ^ (numbers_of p).height + q))
unfolding signature_of
cut p id seed q message small =
    let n = numbers_of p in
    let head = to_be_bytes w32 q in
    let ots = leaf_signature n id seed q message in
    let code = to_be_bytes w32 n.lms_code in
    let way = path n id seed n.height 0 (2 ^ n.height + q) in
    let long = length-leaf_signature p id seed q message in
    let behind : drop (4 + ots_len n) (head ++ ots ++ code ++ way) ≡ code ++ way =
    ap (drop (4 + ots_len n)) (append_assoc (head ++ ots) code way)
    ∙ drop_at (head ++ ots) (code ++ way) (4 + ots_len n) (omega (arith, length-append head ots, long)) in
    record {
      leaf = sym (from_be_bytes-to_be_bytes_4 q small);
      one_time = sym (ap (λ zs. take (ots_len n) (drop 4 zs)) (append_assoc (head ++ ots) code way ∙ append_assoc head ots (code ++ way))
          ∙ take_at ots (code ++ way) (ots_len n) long);
      tree_code = sym (ap (λ zs. from_be_bytes w32 (take 4 zs)) behind
          ∙ from_be_bytes-to_be_bytes_4 n.lms_code ((small_codes p.width p.height).0));
      rest = sym (ap (drop 4) behind);
    }

-- the length of a signature
pub length-signature_of : (p : Params) (id seed : List ℕ) (q : ℕ) (message : List ℕ)
    → length (signature_of (numbers_of p) id seed q message) ≡ signature_len (numbers_of p)
unfolding signature_of
length-signature_of p id seed q message =
    let n = numbers_of p in
    let head = to_be_bytes w32 q in
    let ots = leaf_signature n id seed q message in
    let code = to_be_bytes w32 n.lms_code in
    let way = path n id seed n.height 0 (2 ^ n.height + q) in
    omega (
      arith,
      length-append (head ++ ots ++ code) way,
      length-append (head ++ ots) code,
      length-append head ots,
      length-leaf_signature
          p id seed q message,
      length-path p id seed n.height 0 (2 ^ n.height + q),
    )

-- what the public key of a tree is made of
record IsKey (p : Params) (id seed key : List ℕ) : Type 0 where
  whole : length key ≡ 56
  scheme : scheme_of key ≡ Some (numbers_of p)
  identifier : take 16 (drop 8 key) ≡ id
  root : drop 24 key ≡ node (numbers_of p) id seed (numbers_of p).height 1

public_key-parts : (p : Params) (id seed : List ℕ) → length id ≡ 16 → IsKey p id seed (public_key (numbers_of p) id seed)
unfolding public_key
public_key-parts p id seed long =
    let n = numbers_of p in
    let lms = to_be_bytes w32 n.lms_code in
    let ots = to_be_bytes w32 n.ots_code in
    let root = node n id seed n.height 1 in
    let small = small_codes p.width p.height in
    record {
      whole = omega (arith, length-append (lms ++ ots ++ id) root, length-append (lms ++ ots) id, length-node n id seed n.height 1);
      scheme = ap (λ a. params_of a (from_be_bytes w32 ots)) (from_be_bytes-to_be_bytes_4 n.lms_code small.0)
          ∙ ap (λ b. params_of n.lms_code b) (from_be_bytes-to_be_bytes_4 n.ots_code small.1) ∙ named p.width p.height;
      identifier = take_at id root 16 long;
      root = drop_at id root 16 long;
    }

-- the signature of a message with a leaf verifies under the public key of the tree
pub signed_verifies : SignedVerifies
signed_verifies p id seed q message long below =
    let n = numbers_of p in
    let key = public_key n id seed in
    let ots = leaf_signature n id seed q message in
    let way = path n id seed n.height 0 (2 ^ n.height + q) in
    let number = 2 ^ n.height + q in
    let k = public_key-parts p id seed long in
    let small : q < 2 ^ 32 = omega (arith, pow_mono {i = n.height} {j = 32} (omega (arith, low_height p.height))) in
    let of_type = ap (from_be_bytes w32) (take-leaf_signature p id seed q message)
    ∙ from_be_bytes-to_be_bytes_4 n.ots_code ((small_codes p.width p.height).1) in
    let leaf : leaf_hash id number (leaf_candidate n id q message ots) ≡ node n id seed 0 number =
    ap (leaf_hash id number) (signed_is_candidate p id seed q message) ∙ node-leaf n id seed q in
    let up = climb n id seed way n.height 0 number [] (omega arith) (omega arith) (omega (arith, pow-next n.height)) refl refl in
    checked n key message (signature_of n id seed q message) q n.lms_code ots way (cut p id seed q message small) k.scheme k.whole
    (length-signature_of p id seed q message) of_type refl below
    ∙ ap (λ i. bytes_same (root_above i way n.height 0 number (leaf_hash i number (leaf_candidate n i q message ots))) (drop 24 key))
    k.identifier
    ∙ ap (λ x. bytes_same (root_above id way n.height 0 number x) (drop 24 key)) leaf
    ∙ ap (λ x. bytes_same x (drop 24 key)) up
    ∙ ap (λ x. bytes_same (node n id seed n.height 1) x) k.root
    ∙ bytes_same-refl (node n id seed n.height 1)
