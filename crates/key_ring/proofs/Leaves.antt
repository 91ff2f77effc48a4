-- The leaves of a series of signatures ascend.
use Rattle.std.proofs.Common.{◌≡◌, ℕ, ◌+◌, ◌≤◌, ◌<◌, ◌^◌, List, [], ◌∷◌, ◌++◌, refl, ap, ◌∙◌, subst, arith}
use Rattle.std.specs.Prelude.{Result, Ok, Err}
use Rattle.std.specs.List.{filter_map, cons_option}
use Rattle.std.specs.Int.{w32, to_be_bytes, from_be_bytes}
use Rattle.std.proofs.lemmas.List.{take_at, append_assoc}
use Rattle.std.proofs.lemmas.Nat.{from_be_bytes-to_be_bytes_4}
use Rattle.ledger_model.specs.Signatures.{signature_of, leaf_signature, path}
use Rattle.lm_ots.specs.declared.params.TreeHeight.{TreeHeight}
use Rattle.lm_ots.specs.declared.params.TreeHeight.TheVariants.{H5, H10}
use Rattle.lm_ots.specs.Parameters.{numbers_of, levels_of}
use Rattle.lms_tree.specs.Trees.{Secret}
use Rattle.key_ring.specs.declared.fault.SignFault.{SignFault}
use Rattle.key_ring.specs.declared.fault.SignFault.TheVariants as fault
use Rattle.key_ring.specs.Signers.{SignerView, Signs, signed_with, leaves_of}
use Rattle.key_ring.specs.Laws.{Call, SignsAll, AscendFrom, NoLeafTwice, leaf_in, leaf_of}

few_leaves : (h : TreeHeight) → 2 ^ levels_of h < 2 ^ 32
few_leaves H5 = omega arith
few_leaves H10 = omega arith

-- a signature names the leaf that made it
named : (s : Secret) (leaf : ℕ) (message : List ℕ) → leaf < 2 ^ 32 → leaf_in (signed_with s leaf message) ≡ leaf
unfolding signature_of
named s leaf message small =
    let p = numbers_of s.params in
    let head = to_be_bytes w32 leaf in
    let ots = leaf_signature p s.identifier s.seed leaf message in
    let code = to_be_bytes w32 p.lms_code in
    let way = path p s.identifier s.seed p.height 0 (2 ^ p.height + leaf) in
    ap leaf_in (append_assoc (head ++ ots) code way ∙ append_assoc head ots (code ++ way))
    ∙ ap (from_be_bytes w32) (take_at head (ots ++ code ++ way) 4 refl)
    ∙ from_be_bytes-to_be_bytes_4 leaf small

-- leaves that ascend from a number ascend from every lower one
pub ascend_lower : (least more : ℕ) (ns : List ℕ) → least ≤ more → AscendFrom more ns → AscendFrom least ns
unfolding AscendFrom
ascend_lower least more [] le a = tt
ascend_lower least more (n ∷ ns) le a = let first = a.0 in (omega arith, a.1)

-- what one call adds to the leaves of those after it
one_call : (old next : SignerView) (message : List ℕ) (answer : Result (List ℕ) SignFault) (ns : List ℕ)
    → Signs old message answer next → AscendFrom next.used ns → AscendFrom old.used (cons_option (leaf_of answer) ns)
unfolding AscendFrom
one_call old next message (Ok signature) ns step rest =
    let left : old.used < leaves_of old.secret = step.1.0 in
    let used : next.used ≡ old.used + 1 = ap (λ (k : SignerView). k.used) (step.1.1) in
    let few = few_leaves old.secret.params.height in
    let leaf : leaf_in signature ≡ old.used = ap leaf_in (step.0) ∙ named old.secret old.used message (omega arith) in
    (omega arith, subst (λ n. AscendFrom n ns) (omega arith) rest)
one_call old next message (Err fault.Exhausted) ns step rest =
    subst (λ (k : SignerView). AscendFrom k.used ns) (step.1) rest
one_call old next message (Err fault.NoMemory) ns step rest =
    let used : next.used ≡ old.used + 1 = ap (λ (k : SignerView). k.used) (step.1) in
    ascend_lower old.used next.used ns (omega arith) rest

pub no_leaf_twice : NoLeafTwice
unfolding SignsAll AscendFrom
no_leaf_twice old new [] all = tt
no_leaf_twice old new (c ∷ cs) all =
    let next = all.0 in
    one_call old next c.message c.answer (filter_map (λ (d : Call). leaf_of d.answer) cs) (all.1.0) (no_leaf_twice next new cs (all.1.1))
