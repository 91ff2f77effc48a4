-- Lists with one place for each replica: what was read, one more element, and the places of an instance that matches.
use Rattle.std.proofs.Common.{◌≡◌, ℕ, zero, suc, ◌+◌, ◌≤◌, true, List, [], ◌∷◌, length, refl, sym, ap, subst, arith, ◌<◌, Bool}
use Rattle.std.proofs.Common.{◌||◌, ◌⊎◌, ◌∙◌}
use Rattle.std.specs.Prelude.{map, Option, Some, None, nat_eq, is_some, slice_set, replicate}
use Rattle.std.proofs.lemmas.Simd.{map-map}
use Rattle.ledger_model.specs.Notes.{Note}
use Rattle.tally.specs.Tallies.{all_read, read_of, Places}
use Rattle.ledger_model.specs.Validity.{ascends_within}
use Rattle.ledger_model.specs.Rules.{Ring}
use Rattle.tally.specs.Readings.{reports_of, AreReadIn, AreAcksIn}
use Rattle.ledger_model.proofs.Counting.{ascends_from, ascends_lower}
use Rattle.tally.proofs.Puts.{read_at, at_read, read_put}
use Rattle.instance.specs.Instances.{InstanceView}
use Rattle.instance.specs.Matching.{MatchesIn}
use Rattle.std.specs.List.{list_any}
use Rattle.std.specs.Cmp.{both_ways}
use Rattle.std.proofs.lemmas.Bool.{eqb-true, eq-eqb}
use Rattle.ledger_model.proofs.Lists.{any_has, has_any}
use Rattle.instance.specs.Plans.{placed}

-- ---- elements, each at the place of its number

-- where the first place is that of number low
keys_ascend : {X : Type 0} (key : X → ℕ) (low high : ℕ) (places : List (Option X)) → low + length places ≤ high
    → ((r : ℕ) (x : X) → read_of places r ≡ Some x → key x ≡ low + r) → ascends_within low high (map key (all_read places)) ≡ true
keys_ascend key low high [] le at = refl
keys_ascend key low high (None ∷ places) le at =
    ascends_lower low (low + 1) high (map key (all_read places)) (omega arith)
    (keys_ascend key (low + 1) high places (omega arith) (λ r x h. let e = at (suc r) x h in omega (arith, e)))
keys_ascend key low high (Some x ∷ places) le at =
    let first = at 0 x refl in
    let is : key x ≡ low = omega (arith, first) in
    let rest = keys_ascend key (low + 1) high places (omega arith) (λ r y h. let e = at (suc r) y h in omega (arith, e)) in
    ascends_from low high (key x) (map key (all_read places)) (omega (arith, is)) (omega (arith, is))
    (subst (λ k. ascends_within (k + 1) high (map key (all_read places)) ≡ true) (sym is) rest)

-- what was read, in places that are as many as the replicas, ascends by number
pub read_ascends : {X : Type 0} (key : X → ℕ) (replicas : ℕ) (places : List (Option X)) → length places ≡ replicas
    → ((r : ℕ) (x : X) → read_of places r ≡ Some x → key x ≡ r) → ascends_within 0 replicas (map key (all_read places)) ≡ true
read_ascends key replicas places len at = keys_ascend key 0 replicas places (omega arith) (λ r x h. let e = at r x h in omega (arith, e))

some_value : {X : Type 0} (o : Option X) → is_some o ≡ true → (x : X) × (o ≡ Some x)
some_value (Some x) h = (x, refl)
some_value None h = cc

-- a place is taken just where something of its number was read
pub taken_place : {X : Type 0} (key : X → ℕ) (places : Places X) → ((r : ℕ) (x : X) → read_of places r ≡ Some x → key x ≡ r)
    → (r : ℕ) → is_some (read_of places r) ≡ list_any (λ x. nat_eq (key x) r) (all_read places)
taken_place key places at r =
    both_ways (is_some (read_of places r)) (list_any (λ x. nat_eq (key x) r) (all_read places))
    (λ some. let found = some_value (read_of places r) some in
    has_any (λ x. nat_eq (key x) r) (all_read places) found.0 (at_read places r found.0 found.1)
    (eq-eqb (key found.0) r (at r found.0 found.1)))
    (λ any. let found = any_has (λ x. nat_eq (key x) r) (all_read places) any in
    let place = read_at places found.0 found.1.0 in
    let here : place.0 ≡ r = sym (at place.0 found.0 place.1) ∙ eqb-true (key found.0) r found.1.1 in
    ap (λ i. is_some (read_of places i)) (sym here) ∙ ap is_some place.1)

-- ---- an element is put into an empty place

-- a test of what was read
pub any_put : {X : Type 0} (test : X → Bool) (places : Places X) (r : ℕ) (x : X) → r < length places → read_of places r ≡ None
    → list_any test (all_read (slice_set places r (Some x))) ≡ (list_any test (all_read places) || test x)
any_put test [] r x below none = absurd (omega arith)
any_put test (place ∷ places) zero x below none = grind arith
any_put test (place ∷ places) (suc r) x below none = let rest = any_put test places r x in grind arith

-- the same where it is kept only if nothing was there
pub read_added : {X : Type 0} (places : Places X) (r q : ℕ) (x y : X) → read_of (placed places r x) q ≡ Some y
    → ((q ≡ r) × (x ≡ y)) ⊎ (read_of places q ≡ Some y)
read_added places r q x y h = grind (arith, read_put)

-- ---- places of which nothing was read

pub none_read : {X : Type 0} (n : ℕ) → all_read {X = X} (replicate n None) ≡ []
none_read zero = refl
none_read (suc n) = none_read n

-- ---- a row that matches a log

module _ (ring : Ring) (row : InstanceView) (log : List Note) (k : ℕ) (m : MatchesIn ring row log k) where
  -- the reports and the acknowledgements that are kept are those that were read in the phase
  pub are_read_in : AreReadIn row.config log k (reports_of (all_read row.reports))
  are_read_in = record {
    same = m.reports.same;
    signers = subst (λ rs. ascends_within 0 row.config.replicas rs ≡ true)
        (sym (map-map (λ p. p.signer) (λ s. s.report) (all_read row.reports)))
        (read_ascends (λ s. s.report.signer) row.config.replicas row.reports m.reports.count (λ r s h. (m.reports.kept r s h).of_signer));
  }

  pub are_acks_in : AreAcksIn row.config log k (all_read row.acks)
  are_acks_in = record {
    same = m.acks.same;
    signers =
        read_ascends (λ a. a.signer) row.config.replicas row.acks m.acks.count m.acks.ackers;
  }
