-- The answers that a verifier knows stay the ring's, and no more than it has room for.
use Rattle.std.proofs.Common.{◌≡◌, ℕ, ◌+◌, ◌-◌, ◌<◌, ◌≤◌, Bool, true, false, List, [], ◌∷◌, length, take}
use Rattle.std.proofs.Common.{Option, Some, None, refl, sym, ap, subst, ◌∙◌, inl, inr, arith, nat_eq}
use Rattle.std.specs.Prelude.{option_map, ◌&&◌, is_some, slice_get, IfSome}
use Rattle.std.specs.Option.{option_map_or, option_eq}
use Rattle.std.specs.Map.{lookup, lookup_entry, remove_entry}
use Rattle.std.specs.Cmp.Lexicographic.{pointwise}
use Rattle.std.proofs.lemmas.List.{length-take}
use Rattle.std.proofs.lemmas.Bool.{eqb-true}
use Rattle.lru.specs.LruCache.{LruCache, lru_cache, promoted, put_entries}
use Rattle.lru.proofs.CallerLemmas.{Contains-lookup, Contains-promoted, Contains-take}
use Rattle.lru.proofs.Pairs.{lookup-lookup_entry}
use Rattle.lru.proofs.Splits.{Contains-cons}
use Rattle.ledger_model.specs.Rules.{Ring, is_signed_by}
use Rattle.ledger_model.proofs.Lists.{pointwise_equal}
use Rattle.verify_cache.specs.declared.signed.SignedMessage.{SignedMessage}
use Rattle.verify_cache.specs.Same.{same}
use Rattle.verify_cache.specs.Verifiers.{AreAnswers, answer_by, added, has_same_key}

abbrev StoredAnswers : Type 0
StoredAnswers = List (SignedMessage × Bool)

-- what passes the test is the same
pub same-equal : (m n : SignedMessage) → same m n ≡ true → m ≡ n
same-equal m n h =
    by (nat_eq m.signer n.signer) (pointwise nat_eq m.message n.message) (pointwise nat_eq m.signature n.signature) refl refl refl h
  where
    bytes : (xs ys : List ℕ) → pointwise nat_eq xs ys ≡ true → xs ≡ ys
    bytes = pointwise_equal nat_eq eqb-true

    by : (a b c : Bool) → nat_eq m.signer n.signer ≡ a → pointwise nat_eq m.message n.message ≡ b
        → pointwise nat_eq m.signature n.signature ≡ c
        → a && (b && c) ≡ true → m ≡ n
    by true true true p q r h =
        let signer = eqb-true m.signer n.signer p in
        let message = bytes m.message n.message q in
        let signature = bytes m.signature n.signature r in
        rw (signer, message, signature) refl
    by true true false p q r h = absurd (cc)
    by true false true p q r h = absurd (cc)
    by true false false p q r h = absurd (cc)
    by false true true p q r h = absurd (cc)
    by false true false p q r h = absurd (cc)
    by false false true p q r h = absurd (cc)
    by false false false p q r h = absurd (cc)

-- a known answer is the ring's
pub found : (ring : Ring) (es : StoredAnswers) (m : SignedMessage) (answer : Bool)
    → AreAnswers ring es → lookup (same m) es ≡ Some answer → answer ≡ answer_by ring m
found ring es m answer all h =
    let on = Contains-lookup (same m) es answer h in
    subst (λ n. answer ≡ answer_by ring n) (sym (same-equal m on.0 on.2)) (all (on.0, answer) on.1)

-- the most recent now, the answers are as before
pub answers-promoted : (ring : Ring) (test : SignedMessage → Bool) (es : StoredAnswers) → AreAnswers ring es
    → AreAnswers ring (promoted test es)
answers-promoted ring test es all e on = all e (Contains-promoted test es e on)

pub length-promoted : (test : SignedMessage → Bool) (es : StoredAnswers) → length (promoted test es) ≡ length es
length-promoted test es = by (lookup_entry test es) refl
  where
    without : (xs : StoredAnswers) (e : SignedMessage × Bool) → lookup_entry test xs ≡ Some e
        → length (remove_entry test xs) + 1 ≡ length xs
    without [] e h = absurd (cc)
    without (x ∷ xs) e h = (elim (test x.0) as (λ b. test x.0 ≡ b → length (remove_entry test (x ∷ xs)) + 1 ≡ length (x ∷ xs)) [
      | true ↦ λ t. rw t (omega arith)
      | false ↦ λ t. let rest = without xs e (rw t at h) in rw t (omega (arith, rest))
    ]) refl

    by : (o : Option (SignedMessage × Bool)) → lookup_entry test es ≡ o
        → length (option_map_or (λ e. e ∷ remove_entry test es) o es) ≡ length es
    by None h = refl
    by (Some e) h = let rest = without es e h in omega (arith, rest)

-- a new answer
pub answers-added : (ring : Ring) (capacity : ℕ) (m : SignedMessage) (answer : Bool) (es : StoredAnswers)
    → AreAnswers ring es → answer ≡ answer_by ring m → AreAnswers ring (added capacity m answer es)
answers-added ring capacity m answer es all h e on = elim (Contains-cons (m, answer) (take (capacity - 1) es) e on) [
  | inl is ↦ subst (λ (p : SignedMessage × Bool). p.1 ≡ answer_by ring p.0) is h
  | inr rest ↦ all e (Contains-take (capacity - 1) es e rest)
]

pub length-added : (capacity : ℕ) (m : SignedMessage) (answer : Bool) (es : StoredAnswers) → 0 < capacity
    → length (added capacity m answer es) ≤ capacity
length-added capacity m answer es room = let l = length-take (capacity - 1) es in omega (arith, l, room)

-- what is put, and was not known, is added
pub put-new : (c : LruCache SignedMessage Bool) (m : SignedMessage) (answer : Bool)
    → lookup (same m) c.entries ≡ None → put_entries same c m answer ≡ added c.cap m answer c.entries
put-new c m answer h = by (lookup_entry (same m) c.entries) (lookup-lookup_entry (same m) c.entries ∙ h)
  where
    by : (o : Option (SignedMessage × Bool)) → option_map (λ e. e.1) o ≡ None
        → option_map_or (λ e. (e.0, answer) ∷ remove_entry (same m) c.entries) o ((m, answer) ∷ take (c.cap - 1) c.entries)
        ≡ added c.cap m answer c.entries
    by None is = refl
    by (Some e) is = absurd (cc)

-- what is not known stays as it is
pub promoted-new : (es : StoredAnswers) (m : SignedMessage) → lookup (same m) es ≡ None → promoted (same m) es ≡ es
promoted-new es m h = by (lookup_entry (same m) es) (lookup-lookup_entry (same m) es ∙ h)
  where
    by : (o : Option (SignedMessage × Bool)) → option_map (λ e. e.1) o ≡ None → option_map_or (λ e. e ∷ remove_entry (same m) es) o es ≡ es
    by None is = refl
    by (Some e) is = absurd (cc)

pub none-from : (o : Option Bool) → is_some o ≡ false → o ≡ None
none-from None h = refl
none-from (Some b) h = absurd (cc)

-- what holds of the answers that a verifier knows
abbrev pub HoldsAnswers : Ring → LruCache SignedMessage Bool → Type 0
HoldsAnswers ring c = (0 < c.cap) × (length c.entries ≤ c.cap) × AreAnswers ring c.entries

-- what `get` leaves
pub held-promoted : (ring : Ring) (test : SignedMessage → Bool) (old new : LruCache SignedMessage Bool)
    → new ≡ lru_cache (promoted test old.entries) old.cap → HoldsAnswers ring old → HoldsAnswers ring new
held-promoted ring test old new is held =
    let fits = subst (λ n. n ≤ old.cap) (sym (length-promoted test old.entries)) held.1 in
    subst (HoldsAnswers ring) (sym is) (held.0, fits, answers-promoted ring test old.entries held.2)

-- what `put` leaves, where the answer is new
pub held-put : (ring : Ring) (old new : LruCache SignedMessage Bool) (m : SignedMessage) (answer : Bool)
    → new ≡ lru_cache (added old.cap m answer old.entries) old.cap → HoldsAnswers ring old → answer ≡ answer_by ring m
    → HoldsAnswers ring new
held-put ring old new m answer is held right =
    subst (HoldsAnswers ring) (sym is)
    (held.0, length-added old.cap m answer old.entries held.0, answers-added ring old.cap m answer old.entries held.2 right)

-- what is found is the ring's answer
pub found-any : (ring : Ring) (es : StoredAnswers) (m : SignedMessage) (o : Option Bool)
    → AreAnswers ring es → o ≡ lookup (same m) es → IfSome o (λ answer. answer ≡ answer_by ring m)
found-any ring es m None all h = tt
found-any ring es m (Some answer) all h = found ring es m answer all (sym h)

-- where both rings have the same key of the signer, they answer alike
pub same-answer : (r q : Ring) (m : SignedMessage) → has_same_key r q m.signer ≡ true → answer_by r m ≡ answer_by q m
same-answer r q m h =
    ap (λ o. is_signed_by o m.message m.signature) (by (slice_get r m.signer) (slice_get q m.signer) h)
  where
    by : (o p : Option (List ℕ)) → option_eq (pointwise nat_eq) o p ≡ true → o ≡ p
    by None None h = refl
    by None (Some y) h = absurd (cc)
    by (Some x) None h = absurd (cc)
    by (Some x) (Some y) h = ap Some (pointwise_equal nat_eq eqb-true x y h)
