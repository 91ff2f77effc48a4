-- The first places, and one more place.
use Rattle.std.proofs.Common.{◌≡◌, ℕ, suc, ◌+◌, ◌<◌, ◌≤◌, Bool, true, false, List, [], ◌∷◌, ◌++◌, length, take, get_or, refl, sym, ap}
use Rattle.std.proofs.Common.{subst, ◌∙◌, arith, length-append, length-take, add-zero, append-nil}
use Rattle.std.specs.Prelude.{Option, Some, None, filter, if◌then◌else◌}
use Rattle.std.specs.Option.{is_some}
use Rattle.std.specs.List.{cons_option}
use Rattle.std.specs.Fn.{ComputesKey, Called, Mut, always_mut}
use Rattle.std.proofs.lemmas.List.{take_more}
use Rattle.std.proofs.lemmas.List.Elements.{filter-append, filter_map-append}
use denote.Ref.{Bor}
use denote.Param.Always.{mut_next}
use Rattle.tally.specs.Tallies.{all_read, count_where, signers_from}

-- ---- what was read

pub all_read_more : {X : Type 0} (places : List (Option X)) (i : ℕ) (place : Option X) → i < length places → place ≡ get_or places i place
    → all_read (take (i + 1) places) ≡ all_read (take i places) ++ cons_option place []
all_read_more places i place h is =
    ap all_read (take_more places i place h) ∙ filter_map-append (λ p. p) (take i places) (get_or places i place ∷ [])
    ∙ ap (λ p. all_read (take i places) ++ cons_option p []) (sym is)

count_more : {X : Type 0} (test : X → Bool) (places : List (Option X)) (i : ℕ) (place : Option X) → i < length places
    → place ≡ get_or places i place
    → count_where test (all_read (take (i + 1) places))
    ≡ count_where test (all_read (take i places)) + count_where test (cons_option place [])
count_more test places i place h is =
    ap (count_where test) (all_read_more places i place h is)
    ∙ ap length (filter-append test (all_read (take i places)) (cons_option place []))
    ∙ length-append (filter test (all_read (take i places))) (filter test (cons_option place []))

length_more : {X : Type 0} (places : List (Option X)) (i : ℕ) (place : Option X) → i < length places → place ≡ get_or places i place
    → length (all_read (take (i + 1) places)) ≡ length (all_read (take i places)) + length (cons_option place [])
length_more places i place h is =
    ap length (all_read_more places i place h is) ∙ length-append (all_read (take i places)) (cons_option place [])

-- ---- a count of them

module _ {F X : Type 0} (g : Mut F (Bor X × Unit {0}) Bool) where
  -- a call answers what the test gives, and so do those after it
  computes_next : (test : X → Bool) (f : F) (read : Bor X) (answer : Bool) (next : F) → ComputesKey g test f
      → Called g f (read, tt) answer next
      → (answer ≡ test read.now) × ComputesKey g test next
  computes_next test f read answer next h call =
      ((h.at ((read, tt) ∷ []) answer next call).0, record { at = λ xs. (h.at ((read, tt) ∷ xs) answer next call).1 })

  -- what the count is after the first i places, and the state that the calls left the predicate in
  pub record Counts (places : List (Option X)) (first : F) (i : ℕ) (f : F) (count : ℕ) : Type 0 where
    pub callable : always_mut g first → always_mut g f
    pub few : count ≤ i
    pub bounded : count ≤ length (all_read (take i places))
    pub counted : (test : X → Bool) → ComputesKey g test first
        → ComputesKey g test f × (count ≡ count_where test (all_read (take i places)))

  -- a place of which nothing was read leaves the count
  pub Counts-unread : (places : List (Option X)) (first : F) (i : ℕ) (f : F) (count : ℕ) (place : Option X) → Counts places first i f count
      → i < length places → place ≡ get_or places i place → place ≡ None → Counts places first (i + 1) f count
  Counts-unread places first i f count place h lt is none =
      let none_is : None ≡ get_or places i None = subst (λ p. p ≡ get_or places i p) none is in
      record {
        callable = h.callable;
        few = omega (arith, h.few);
        bounded = omega (arith, h.bounded, length_more places i None lt none_is);
        counted = λ test k. let old = h.counted test k
            in (old.0, old.1 ∙ sym (count_more test places i None lt none_is ∙ add-zero (count_where test (all_read (take i places)))));
      }

  -- what was read counts where the predicate answers so
  pub Counts-called : (places : List (Option X)) (first : F) (i : ℕ) (f : F) (count : ℕ) (place : Option X) → Counts places first i f count
      → i < length places → place ≡ get_or places i place → (read : Bor X) → place ≡ Some read.now
      → (answer : Bool) (next : F) → Called g f (read, tt) answer next
      → Counts places first (i + 1) next (count + (if answer then 1 else 0))
  Counts-called places first i f count place h lt is read some answer next call =
      let some_is : Some read.now ≡ get_or places i (Some read.now) = subst (λ p. p ≡ get_or places i p) some is in
      record {
        callable = λ k. mut_next g f (read, tt) answer next next call refl (h.callable k);
        few = let one = at_most_one answer in omega (arith, h.few, one);
        bounded = let one = at_most_one answer in omega (arith, h.bounded, one, length_more places i (Some read.now) lt some_is);
        counted = λ test k.
            let old = h.counted test k in
            let now = computes_next test f read answer next old.0 call in (
              now.1,
              ap (λ n. n + (if answer then 1 else 0)) old.1
                  ∙ ap (λ n. count_where test (all_read (take i places)) + n) (counts_one test read.now answer now.0)
                  ∙ sym (count_more test places i (Some read.now) lt some_is),
            );
      }
    where
      at_most_one : (answer : Bool) → (if answer then 1 else 0) ≤ 1
      at_most_one true = omega arith
      at_most_one false = omega arith

      counts_one : (test : X → Bool) (read : X) (answer : Bool) → answer ≡ test read
          → (if answer then 1 else 0) ≡ count_where test (read ∷ [])
      counts_one test read true e = rw (← e) refl
      counts_one test read false e = rw (← e) refl

-- ---- whose

signers_from-push : {X : Type 0} (r : ℕ) (places : List (Option X)) (place : Option X)
    → signers_from r (places ++ place ∷ []) ≡ signers_from r places ++ signers_from (r + length places) (place ∷ [])
signers_from-push r [] place = rw add-zero refl
signers_from-push r (None ∷ places) place =
    let shifted : r + 1 + length places ≡ r + suc (length places) = omega arith in
    signers_from-push (r + 1) places place ∙ ap (λ k. signers_from (r + 1) places ++ signers_from k (place ∷ [])) shifted
signers_from-push r (Some x ∷ places) place =
    let shifted : r + 1 + length places ≡ r + suc (length places) = omega arith in
    ap (λ rs. r ∷ rs) (signers_from-push (r + 1) places place
    ∙ ap (λ k. signers_from (r + 1) places ++ signers_from k (place ∷ [])) shifted)

signers_more : {X : Type 0} (places : List (Option X)) (i : ℕ) (place : Option X) → i < length places → place ≡ get_or places i place
    → signers_from 0 (take (i + 1) places) ≡ signers_from 0 (take i places) ++ signers_from i (place ∷ [])
signers_more places i place h is =
    let front : 0 + length (take i places) ≡ i = rw length-take (omega arith) in
    ap (signers_from 0) (take_more places i place h) ∙ signers_from-push 0 (take i places) (get_or places i place)
    ∙ ap (λ p. signers_from 0 (take i places) ++ signers_from (0 + length (take i places)) (p ∷ [])) (sym is)
    ∙ ap (λ k. signers_from 0 (take i places) ++ signers_from k (place ∷ [])) front

-- a replica of which something was read is the next signer, and another is none
pub signers_with : {X : Type 0} (places : List (Option X)) (i : ℕ) (place : Option X) → i < length places → place ≡ get_or places i place
    → is_some place ≡ true
    → signers_from 0 (take (i + 1) places) ≡ signers_from 0 (take i places) ++ i ∷ []
signers_with places i None h is e = cc
signers_with places i (Some x) h is e = signers_more places i (Some x) h is

pub signers_without : {X : Type 0} (places : List (Option X)) (i : ℕ) (place : Option X) → i < length places
    → place ≡ get_or places i place → is_some place ≡ false
    → signers_from 0 (take (i + 1) places) ≡ signers_from 0 (take i places)
signers_without places i None h is e = signers_more places i None h is ∙ append-nil (signers_from 0 (take i places))
signers_without places i (Some x) h is e = cc
