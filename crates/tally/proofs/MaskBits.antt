-- The bits of masks over replicas, and how many are one.
use Rattle.std.proofs.Common.{◌≡◌, ℕ, w16, zero, suc, ◌+◌, ◌-◌, ◌*◌, ◌%◌, ◌<◌, ◌≤◌, ◌^◌, Bool, true, false, [], ◌∷◌, length}
use Rattle.std.proofs.Common.{get_or, refl, sym, ap, ◌∙◌, cond, arith}
use Rattle.std.proofs.Common.{inl, inr, ◌&&◌, ◌||◌, subst}
use Rattle.std.specs.Prelude.{Option, Some, None, map, filter, nat_eq, ◌==◌, not, min, max, slice_set, replicate, bit_and, bit_or}
use Rattle.std.specs.Prelude.{count_ones, if◌then◌else◌}
use Rattle.std.specs.Int.{bit_at}
use Rattle.std.specs.List.{list_any}
use Rattle.std.specs.Option.{option_map_or, is_some}
use Rattle.std.proofs.lemmas.Bool.{cases_eq, cases_lt, cases_Bool, false≢true, ne_eqb, eq-eqb}
use Rattle.std.proofs.lemmas.List.{length-map}
use Rattle.std.proofs.lemmas.List.Recursion.{is_count_by}
use Rattle.std.proofs.lemmas.Nat.Bits.{bit_at_and, bit_at_or, bit_at-zero, bit_at-pow_same, bit_at-pow_other, bit_at_above}
use Rattle.std.proofs.lemmas.Nat.Bits.{bit_at_clear_same, bit_at_clear_other, same_from_bits}
use Rattle.std.proofs.lemmas.Nat.{one_shl}
use Rattle.std.proofs.lemmas.Simd.{bit_mask_l, ones-mask_l, mask_l-lt}
use Rattle.ledger_model.specs.Notes.{Has}
use Rattle.ledger_model.proofs.Lists.{any_has, has_any}
use Rattle.tally.specs.Tallies.{Places, all_read, read_of, count_where}
use Rattle.tally.specs.Masks.{mask_of, mask_read}
use Rattle.tally.proofs.Puts.{there_now, read_elsewhere, none_there, read_at, at_read}

-- a flag as a bit
abbrev pub bit : Bool → ℕ
bit b = cond b 1 0

bit_of_place : {X : Type 0} (test : X → Bool) (places : Places X) (r : ℕ)
    → get_or (map (λ place. option_map_or test place false) places) r false ≡ option_map_or test (read_of places r) false
bit_of_place test [] r = refl
bit_of_place test (place ∷ places) zero = refl
bit_of_place test (place ∷ places) (suc r) = bit_of_place test places r

-- bit r says whether what was read of replica r passes
pub mask_bit : {X : Type 0} (test : X → Bool) (places : Places X) (r : ℕ)
    → bit_at (mask_of test places) r ≡ bit (option_map_or test (read_of places r) false)
unfolding mask_of
mask_bit test places r =
    bit_mask_l (map (λ place. option_map_or test place false) places) r ∙ ap bit (bit_of_place test places r)

-- no bit is one from the number of replicas on
pub mask_below : {X : Type 0} (test : X → Bool) (places : Places X) → mask_of test places < 2 ^ length places
unfolding mask_of
mask_below test places =
    subst (λ n. mask_of test places < 2 ^ n) (length-map places (λ place. option_map_or test place false))
    (mask_l-lt (map (λ place. option_map_or test place false) places))

-- masks of tests that agree on what was read are equal
pub mask_same : {X : Type 0} (p q : X → Bool) (places : Places X) → ((r : ℕ) (x : X) → read_of places r ≡ Some x → p x ≡ q x)
    → mask_of p places ≡ mask_of q places
mask_same {X = X} p q places same =
    same_from_bits (mask_of p places) (mask_of q places)
    (λ r. mask_bit p places r ∙ ap bit (agree (read_of places r) (λ x e. same r x e)) ∙ sym (mask_bit q places r))
  where
    agree : (o : Option X) → ((x : X) → o ≡ Some x → p x ≡ q x) → option_map_or p o false ≡ option_map_or q o false
    agree None h = refl
    agree (Some x) h = h x refl

-- no bit is one in the mask of a test that nothing passes
pub mask_never : {X : Type 0} (places : Places X) → mask_of (λ x. false) places ≡ 0
mask_never {X = X} places =
    same_from_bits (mask_of (λ x. false) places) 0
    (λ r. mask_bit (λ x. false) places r ∙ ap bit (never (read_of places r)) ∙ sym (bit_at-zero r))
  where
    never : (o : Option X) → option_map_or (λ x. false) o false ≡ false
    never None = refl
    never (Some x) = refl

pub mask_and : {X : Type 0} (p q : X → Bool) (places : Places X)
    → bit_and (mask_of p places) (mask_of q places) ≡ mask_of (λ x. p x && q x) places
mask_and {X = X} p q places =
    same_from_bits (bit_and (mask_of p places) (mask_of q places)) (mask_of (λ x. p x && q x) places)
    (λ r. bit_at_and (mask_of p places) (mask_of q places) r
    ∙ ap (λ n. min n (bit_at (mask_of q places) r)) (mask_bit p places r)
    ∙ ap (λ n. min (bit (option_map_or p (read_of places r) false)) n) (mask_bit q places r)
    ∙ both (read_of places r) ∙ sym (mask_bit (λ x. p x && q x) places r))
  where
    flags : (a b : Bool) → min (bit a) (bit b) ≡ bit (a && b)
    flags true true = refl
    flags true false = refl
    flags false true = refl
    flags false false = refl

    both : (o : Option X) → min (bit (option_map_or p o false)) (bit (option_map_or q o false))
        ≡ bit (option_map_or (λ x. p x && q x) o false)
    both None = refl
    both (Some x) = flags (p x) (q x)

pub mask_or : {X : Type 0} (p q : X → Bool) (places : Places X)
    → bit_or (mask_of p places) (mask_of q places) ≡ mask_of (λ x. p x || q x) places
mask_or {X = X} p q places =
    same_from_bits (bit_or (mask_of p places) (mask_of q places)) (mask_of (λ x. p x || q x) places)
    (λ r. bit_at_or (mask_of p places) (mask_of q places) r
    ∙ ap (λ n. max n (bit_at (mask_of q places) r)) (mask_bit p places r)
    ∙ ap (λ n. max (bit (option_map_or p (read_of places r) false)) n) (mask_bit q places r)
    ∙ either (read_of places r) ∙ sym (mask_bit (λ x. p x || q x) places r))
  where
    flags : (a b : Bool) → max (bit a) (bit b) ≡ bit (a || b)
    flags true true = refl
    flags true false = refl
    flags false true = refl
    flags false false = refl

    either : (o : Option X) → max (bit (option_map_or p o false)) (bit (option_map_or q o false))
        ≡ bit (option_map_or (λ x. p x || q x) o false)
    either None = refl
    either (Some x) = flags (p x) (q x)

-- the number of ones is a count
pub mask_ones : {X : Type 0} (test : X → Bool) (places : Places X) → count_ones (mask_of test places) ≡ count_where test (all_read places)
unfolding mask_of
mask_ones {X = X} test places =
    ones-mask_l (λ place. option_map_or test place false) places
    ∙ sym (is_count_by (λ os. count_where test (all_read os)) (λ place. option_map_or test place false) refl step places)
  where
    step : (place : Option X) (os : Places X) → count_where test (all_read (place ∷ os))
        ≡ cond (option_map_or test place false) (1 + count_where test (all_read os)) (count_where test (all_read os))
    step None os = refl
    step (Some x) os =
        elim (test x) as (λ b. length (cond b (x ∷ filter test (all_read os)) (filter test (all_read os)))
        ≡ cond b (1 + count_where test (all_read os)) (count_where test (all_read os))) [ true ↦ omega arith | false ↦ refl ]

-- no bit of a new tally's masks is one
pub mask_none : {X : Type 0} (test : X → Bool) (n : ℕ) → mask_of test (replicate n None) ≡ 0
mask_none test n =
    same_from_bits (mask_of test (replicate n None)) 0
    (λ r. mask_bit test (replicate n None) r ∙ ap (λ o. bit (option_map_or test o false)) (none_there n r) ∙ sym (bit_at-zero r))

flag_here : (b : Bool) (r : ℕ) → bit_at (cond b (2 ^ r) 0) r ≡ bit b
flag_here true r = bit_at-pow_same r
flag_here false r = bit_at-zero r

flag_elsewhere : (b : Bool) (r i : ℕ) → (i ≡ r → ⊥) → bit_at (cond b (2 ^ r) 0) i ≡ 0
flag_elsewhere true r i other = bit_at-pow_other r i other
flag_elsewhere false r i other = bit_at-zero i

-- what is put into an empty place sets its bit if it passes
pub mask_put : {X : Type 0} (test : X → Bool) (places : Places X) (r : ℕ) (x : X) → r < length places → read_of places r ≡ None
    → mask_of test (slice_set places r (Some x)) ≡ bit_or (mask_of test places) (cond (test x) (2 ^ r) 0)
mask_put {X = X} test places r x below none =
    same_from_bits (mask_of test (slice_set places r (Some x))) (bit_or (mask_of test places) (cond (test x) (2 ^ r) 0))
    (λ i. at i)
  where
    after : (i : ℕ) → bit_at (bit_or (mask_of test places) (cond (test x) (2 ^ r) 0)) i
        ≡ max (bit (option_map_or test (read_of places i) false)) (bit_at (cond (test x) (2 ^ r) 0) i)
    after i =
        bit_at_or (mask_of test places) (cond (test x) (2 ^ r) 0) i
        ∙ ap (λ n. max n (bit_at (cond (test x) (2 ^ r) 0) i)) (mask_bit test places i)

    max_zero : (b : Bool) → max (bit b) 0 ≡ bit b
    max_zero true = refl
    max_zero false = refl

    zero_max : (b : Bool) → max 0 (bit b) ≡ bit b
    zero_max true = refl
    zero_max false = refl

    at : (i : ℕ) → bit_at (mask_of test (slice_set places r (Some x))) i
        ≡ bit_at (bit_or (mask_of test places) (cond (test x) (2 ^ r) 0)) i
    at i =
        elim (cases_eq i r) [
          | inl here ↦
              mask_bit test (slice_set places r (Some x)) i
              ∙ ap (λ o. bit (option_map_or test o false)) (ap (read_of (slice_set places r (Some x))) here ∙ there_now places r x below)
              ∙ sym (after i ∙ ap (λ o. max (bit (option_map_or test o false)) (bit_at (cond (test x) (2 ^ r) 0) i)) (ap
              (read_of places) here ∙ none)
              ∙ ap (max 0) (ap (bit_at (cond (test x) (2 ^ r) 0)) here ∙ flag_here (test x) r) ∙ zero_max (test x))
          | inr other ↦
              mask_bit test (slice_set places r (Some x)) i
              ∙ ap (λ o. bit (option_map_or test o false)) (read_elsewhere places r i x other)
              ∙ sym (after i ∙ ap (max (bit (option_map_or test (read_of places i) false))) (flag_elsewhere (test x) r i other)
              ∙ max_zero (option_map_or test (read_of places i) false))
        ]

-- `1 << r` at 16 bits
pub replica_bit : (r : ℕ) → r < 16 → (1 * 2 ^ r) % 65536 ≡ 2 ^ r
replica_bit r below = one_shl r 16 below

-- the mask of what was read, once the bit of an empty place is set
pub mask_full : {X : Type 0} (places : Places X) (r k m : ℕ) (x : X) → r < length places → read_of places r ≡ None
    → length places ≤ 13 → m ≡ mask_read places → k ≡ r
    → bit_or m ((1 * 2 ^ k) % 65536) ≡ mask_read (slice_set places r (Some x))
mask_full places r k m x below none few is same =
    rw (same, is, replica_bit r (omega arith)) (sym (mask_put (λ y. true) places r x below none))

-- bit r of that mask says whether something was read of replica r
pub mask_read_bit : {X : Type 0} (places : Places X) (r : ℕ) → bit_at (mask_read places) r ≡ (if is_some (read_of places r) then 1 else 0)
mask_read_bit {X = X} places r = mask_bit (λ x. true) places r ∙ flag (read_of places r)
  where
    flag : (o : Option X) → bit (option_map_or (λ x. true) o false) ≡ (if is_some o then 1 else 0)
    flag None = refl
    flag (Some x) = refl

-- a mask has no bit at a replica of which no statement passes
pub mask_any : {X : Type 0} (test : X → Bool) (places : Places X) → nat_eq (mask_of test places) 0 ≡ not (list_any test (all_read places))
mask_any {X = X} test places =
    elim (cases_Bool (list_any test (all_read places))) [
      | inl some ↦ ne_eqb (mask_of test places) 0 (λ zero_is. one_set (any_has test (all_read places) some) zero_is) ∙ ap not (sym some)
      | inr none ↦ eq-eqb (mask_of test places) 0
          (mask_same test (λ x. false) places (λ r x there. elim (cases_Bool (test x)) [
            | inl passes ↦ absurd (false≢true (sym none ∙ has_any test (all_read places) x (at_read places r x there) passes))
            | inr fails ↦ fails
          ]) ∙ mask_never places)
          ∙ ap not (sym none)
    ]
  where
    one_set : ((x : X) × (Has (all_read places) x × (test x ≡ true))) → mask_of test places ≡ 0 → ⊥
    one_set found zero_is =
        let place = read_at places found.0 found.1.0 in
        let one : bit_at (mask_of test places) place.0 ≡ 1 =
        mask_bit test places place.0 ∙ ap (λ o. bit (option_map_or test o false)) place.1 ∙ ap bit found.1.1 in
        let none : bit_at (mask_of test places) place.0 ≡ 0 = ap (λ m. bit_at m place.0) zero_is ∙ bit_at-zero place.0 in
        omega (arith, one, none)

-- ---- a mask without a replica

-- a 16-bit number has no bit from 16 on
none_above : (m r : ℕ) → m < 65536 → 16 ≤ r → bit_at m r ≡ 0
none_above m r fits above = bit_at_above m 16 r fits above

-- a bit that is cleared, where there is one
pub without_bit : (m k r : ℕ) → m < 65536 → k < 16
    → bit_at (bit_and m (65535 - ((1 * 2 ^ k) % 65536))) r ≡ (if r == k then 0 else bit_at m r)
without_bit m k r fits below =
    elim (cases_eq r k) [
      | inl here ↦
          ap (bit_at (bit_and m (65535 - ((1 * 2 ^ k) % 65536)))) here
          ∙ bit_at_clear_same w16 m k below
          ∙ sym (ap (λ b. if b then 0 else bit_at m r) (eq-eqb r k here))
      | inr other ↦
          elim (cases_lt r 16) [
            | inl low ↦ bit_at_clear_other w16 m k below r low other
            | inr high ↦
                bit_at_and m (65535 - ((1 * 2 ^ k) % 65536)) r
                ∙ ap (λ n. min n (bit_at (65535 - ((1 * 2 ^ k) % 65536)) r)) (none_above m r fits high)
                ∙ least (bit_at (65535 - ((1 * 2 ^ k) % 65536)) r)
                ∙ sym (none_above m r fits high)
          ]
          ∙ sym (ap (λ b. if b then 0 else bit_at m r) (ne_eqb r k other))
    ]
  where
    least : (n : ℕ) → min 0 n ≡ 0
    least n = omega arith

pub without_none : (m k r : ℕ) → m < 65536 → 16 ≤ k → bit_at m r ≡ (if r == k then 0 else bit_at m r)
without_none m k r fits above =
    elim (cases_eq r k) [
      | inl here ↦
          none_above m r fits (omega arith)
          ∙ sym (ap (λ b. if b then 0 else bit_at m r) (eq-eqb r k here))
      | inr other ↦ sym (ap (λ b. if b then 0 else bit_at m r) (ne_eqb r k other))
    ]

-- the mask of the others that pass
pub mask_others : {X : Type 0} (test others : X → Bool) (places : Places X) (k m n : ℕ)
    → ((r : ℕ) → bit_at n r ≡ (if r == k then 0 else bit_at m r)) → m ≡ mask_of test places
    → ((r : ℕ) (x : X) → read_of places r ≡ Some x → others x ≡ (not (r == k) && test x))
    → n ≡ mask_of others places
mask_others {X = X} test others places k m n bits is other =
    same_from_bits n (mask_of others places)
    (λ r. bits r ∙ ap (λ q. if r == k then 0 else bit_at q r) is
    ∙ ap (λ b. if r == k then 0 else b) (mask_bit test places r)
    ∙ at r (read_of places r) refl
    ∙ sym (mask_bit others places r))
  where
    cleared : (b t : Bool) → (if b then 0 else bit t) ≡ bit (not b && t)
    cleared true t = refl
    cleared false t = refl

    neither : (b : Bool) → (if b then 0 else bit false) ≡ bit false
    neither true = refl
    neither false = refl

    at : (r : ℕ) (o : Option X) → read_of places r ≡ o
        → (if r == k then 0 else bit (option_map_or test (read_of places r) false)) ≡ bit (option_map_or others (read_of places r) false)
    at r None none =
        ap (λ o. if r == k then 0 else bit (option_map_or test o false)) none
        ∙ neither (r == k)
        ∙ sym (ap (λ o. bit (option_map_or others o false)) none)
    at r (Some x) some =
        ap (λ o. if r == k then 0 else bit (option_map_or test o false)) some
        ∙ cleared (r == k) (test x)
        ∙ ap bit (sym (other r x some))
        ∙ sym (ap (λ o. bit (option_map_or others o false)) some)
