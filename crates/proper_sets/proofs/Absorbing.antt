-- One phase by the log agrees with one phase by the reports that were read in it.
use Rattle.std.proofs.Common.{◌≡◌, ℕ, zero, suc, ◌+◌, ◌*◌, ◌<◌, ◌≤◌, Bool, true, false, not, ◌&&◌, ◌||◌, inl, inr, List, [], ◌∷◌, ◌++◌}
use Rattle.std.proofs.Common.{length, refl, sym, ap, subst, ◌∙◌, cond, arith, zero-add}
use Rattle.std.specs.Prelude.{filter, nat_eq, nat_lt, nat_le, ◌==◌}
use Rattle.std.specs.Int.{from_bool}
use Rattle.std.specs.List.{list_any, list_all, flat_map, range_with_len}
use Rattle.std.specs.Cmp.{both_ways}
use Rattle.std.proofs.lemmas.Bool.{and_parts, and_from, or_cases, or_left, or_right, cases_Bool, cases_lt, cases_eq, ltb-true, lt-ltb}
use Rattle.std.proofs.lemmas.Bool.{le-leb}
use Rattle.std.proofs.lemmas.List.{length-map}
use Rattle.ledger_model.specs.declared.config.Config.{Config}
use Rattle.ledger_model.specs.declared.statement.Report.{Report}
use Rattle.ledger_model.specs.Notes.{Note, Has}
use Rattle.ledger_model.specs.Locks.{names}
use Rattle.ledger_model.specs.Rounds.{count_from, number_of}
use Rattle.ledger_model.specs.Values.{Value, same_value}
use Rattle.ledger_model.specs.Proper.{reported, others_reported, is_named, listed_by_other, values_in, has_initial, is_split, are_all_named}
use Rattle.ledger_model.specs.Proper.{is_all_proper, cut, proper_values}
use Rattle.tally.specs.Tallies.{count_where}
use Rattle.tally.specs.Readings.{AreReadIn}
use Rattle.proper_sets.specs.Propriety.{is_named_by, are_all_named_by, initials, is_split_among, named_values}
use Rattle.ledger_model.proofs.Lists.{any_has, has_any, all_has, all_from, has_flat_map, has_map, filter_has, has_filter, flat_map_has}
use Rattle.ledger_model.proofs.Lists.{has_left, has_right, has_cases, same_value-equal}
use Rattle.ledger_model.proofs.Counting.{count_with}
use Rattle.proper_sets.specs.Laws.{BeginsWithOwn, AbsorbsAPhase}
use Rattle.proper_sets.proofs.Counts.{count_where-filter, initials_where}
use Rattle.proper_sets.proofs.Cuts.{absorbed-parts}
use Rattle.proper_sets.proofs.Recuts.{cut_same, cut_again}
use Rattle.tally.proofs.Tallying.{count_from-same}
use Rattle.proper_sets.proofs.LogCounts.{others_are}
use Rattle.proper_sets.proofs.LogValues.{values_read, values_noted}

-- ---- phases up to one

has_range : (a n j : ℕ) → a ≤ j → j < a + n → Has (range_with_len a n) j
has_range a zero j le lt = absurd (omega arith)
has_range a (suc n) j le lt = elim (cases_eq a j) [ inl e ↦ inl e | inr other ↦ inr (has_range (a + 1) n j (omega arith) (omega arith)) ]

range_from : (a n j : ℕ) → Has (range_with_len a n) j → a ≤ j
range_from a zero j h = absurd h
range_from a (suc n) j (inl e) = omega arith
range_from a (suc n) j (inr h) = let le = range_from (a + 1) n j h in omega arith

-- a test that some phase up to k passes: one before k does, or k
any_phase : (test : ℕ → Bool) (k : ℕ) → 1 ≤ k
    → list_any (λ j. nat_lt j (k + 1) && test j) (range_with_len 1 (k + 1))
    ≡ (list_any (λ j. nat_lt j k && test j) (range_with_len 1 k) || test k)
any_phase test k one =
    both_ways (list_any (λ j. nat_lt j (k + 1) && test j) (range_with_len 1 (k + 1)))
    (list_any (λ j. nat_lt j k && test j) (range_with_len 1 k) || test k)
    (λ e. let found = any_has (λ j. nat_lt j (k + 1) && test j) (range_with_len 1 (k + 1)) e in
    let parts = and_parts (nat_lt found.0 (k + 1)) (test found.0) found.1.1 in
    let below = ltb-true found.0 (k + 1) parts.0 in
    let from = range_from 1 (k + 1) found.0 found.1.0 in
    elim (cases_lt found.0 k) [
      | inl lt ↦ or_left (list_any (λ j. nat_lt j k && test j) (range_with_len 1 k)) (test k)
          (has_any (λ j. nat_lt j k && test j) (range_with_len 1 k) found.0 (has_range 1 k found.0 from (omega arith))
          (and_from (nat_lt found.0 k) (test found.0) (lt-ltb found.0 k lt) parts.1))
      | inr ge ↦ (let is : found.0 ≡ k =
          omega arith in or_right (list_any (λ j. nat_lt j k && test j) (range_with_len 1 k)) (test k)
          (subst (λ j. test j ≡ true) is parts.1))
    ])
    (λ e. elim (or_cases (list_any (λ j. nat_lt j k && test j) (range_with_len 1 k)) (test k) e) [
      | inl before ↦
          (let found = any_has (λ j. nat_lt j k && test j) (range_with_len 1 k) before in
          let parts = and_parts (nat_lt found.0 k) (test found.0) found.1.1 in
          let below = ltb-true found.0 k parts.0 in
          let from = range_from 1 k found.0 found.1.0 in
          has_any (λ j. nat_lt j (k + 1) && test j) (range_with_len 1 (k + 1)) found.0 (has_range 1 (k + 1) found.0 from (omega arith))
          (and_from (nat_lt found.0 (k + 1)) (test found.0) (lt-ltb found.0 (k + 1) (omega arith)) parts.1))
      | inr now ↦ has_any (λ j. nat_lt j (k + 1) && test j) (range_with_len 1 (k + 1)) k (has_range 1 (k + 1) k one (omega arith))
          (and_from (nat_lt k (k + 1)) (test k) (lt-ltb k (k + 1) (omega arith)) now)
    ])

-- ---- counts

count_where-true : {X : Type 0} (xs : List X) → count_where (λ x. true) xs ≡ length xs
count_where-true [] = refl
count_where-true (x ∷ xs) = ap suc (count_where-true xs)

some_where : {X : Type 0} (test : X → Bool) (xs : List X) → 0 < count_where test xs → (x : X) × (Has xs x × (test x ≡ true))
some_where test [] h = absurd (omega arith)
some_where test (x ∷ xs) h =
    elim (cases_Bool (test x)) [
      | inl here ↦ (x, (inl refl, here))
      | inr other ↦ (let rest : 0 < count_where test xs = simp other at h in let r = some_where test xs rest in (r.0, (inr r.1.0, r.1.1)))
    ]

-- one number has its own answer, and the others are tested
count_own : (b : Bool) (p : ℕ → Bool) (x n : ℕ) → x < n
    → count_from 0 n (λ r. cond (nat_eq r x) b (p r)) ≡ from_bool b + count_from 0 n (λ r. not (nat_eq r x) && p r)
count_own true p x n lt =
    count_from-same (λ r. cond (nat_eq r x) true (p r)) (λ r. nat_eq r x || p r) 0 n
    (λ r le. elim (nat_eq r x) as (λ b. cond b true (p r) ≡ (b || p r)) [ true ↦ refl | false ↦ refl ])
    ∙ count_with p x 0 n (omega arith) (omega arith)
count_own false p x n lt =
    count_from-same (λ r. cond (nat_eq r x) false (p r)) (λ r. not (nat_eq r x) && p r) 0 n
    (λ r le. elim (nat_eq r x) as (λ b. cond b false (p r) ≡ (not b && p r)) [ true ↦ refl | false ↦ refl ])
    ∙ sym (zero-add (count_from 0 n (λ r. not (nat_eq r x) && p r)))

-- ---- one phase

module _ (config : Config) (id : ℕ) (log : List Note) (k : ℕ) (own : Value) (reports : List Report) (below : id < config.replicas)
    (one : 1 ≤ k) (read : AreReadIn config log k reports) where
  named_is : (v : Value) → is_named config id log k v ≡ is_named_by config id reports v
  named_is v = ap (nat_lt config.faults) (others_are config id log k reports read (λ p. names p v))

  all_named_is : are_all_named config id log k ≡ are_all_named_by config id reports
  all_named_is = ap (nat_lt config.faults) (others_are config id log k reports read (λ p. p.all))

  known_are : others_reported config id log k (λ p. true) + 1 ≡ length (initials id own reports)
  known_are =
      let others = others_are config id log k reports read (λ p. true) in
      let kept = count_where-filter (λ p. not (p.signer == id)) (λ p. true) reports in
      let all = count_where-true (filter (λ p. not (p.signer == id)) reports) in
      let mapped = length-map (filter (λ p. not (p.signer == id)) reports) (λ p. p.initial) in
      omega (arith, others, kept, all, mapped)

  initials_are : (v : Value) → number_of config (has_initial id log k own v) ≡ count_where (same_value v) (initials id own reports)
  initials_are v =
      count_own (same_value v own) (λ r. reported log k r (λ p. same_value v p.initial)) id config.replicas below
      ∙ ap (λ n. from_bool (same_value v own) + n) (others_are config id log k reports read (λ p. same_value v p.initial))
      ∙ sym (initials_where id own (same_value v) reports)

  abbrev rare : Value → Bool
  rare v = nat_le (count_where (same_value v) (initials id own reports)) config.faults

  rare_are : list_all rare (own ∷ values_in (λ p. p.initial ∷ []) k log) ≡ list_all rare (initials id own reports)
  rare_are =
      both_ways (list_all rare (own ∷ values_in (λ p. p.initial ∷ []) k log)) (list_all rare (initials id own reports))
      (λ e. all_from rare (initials id own reports) (λ x h. elim h [
        | inl is ↦ all_has rare (own ∷ values_in (λ p. p.initial ∷ []) k log) x e (inl is)
        | inr other ↦
            (let p = has_map (λ p. p.initial) (filter (λ p. not (p.signer == id)) reports) x other in
            let f = filter_has (λ p. not (p.signer == id)) reports p.0 p.1.0 in
            all_has rare (own ∷ values_in (λ q. q.initial ∷ []) k log) x e
            (inr (values_noted (λ q. q.initial ∷ []) k config log reports read x
            (has_flat_map (λ q. q.initial ∷ []) reports p.0 x f.0 (inl p.1.1)))))
      ]))
      (λ e. all_from rare (own ∷ values_in (λ p. p.initial ∷ []) k log) (λ x h.
      elim (cases_lt 0 (count_where (same_value x) (initials id own reports))) [
        | inl some ↦
            (let found = some_where (same_value x) (initials id own reports) some in
            subst (λ y. rare y ≡ true) (sym (same_value-equal x found.0 found.1.1))
            (all_has rare (initials id own reports) found.0 e found.1.0))
        | inr none ↦ le-leb (count_where (same_value x) (initials id own reports)) config.faults (omega arith)
      ]))

  split_is : is_split config id log k own ≡ is_split_among config (initials id own reports)
  split_is =
      ap (λ n. nat_lt (2 * config.faults) n
      && list_all (λ v. nat_le (number_of config (has_initial id log k own v)) config.faults)
      (own ∷ values_in (λ p. p.initial ∷ []) k log)) known_are
      ∙ ap (λ b. nat_lt (2 * config.faults) (length (initials id own reports)) && b)
      ((λ i. list_all (λ v. nat_le (initials_are v i) config.faults) (own ∷ values_in (λ p. p.initial ∷ []) k log)) ∙ rare_are)

  all_after : is_all_proper config id log (k + 1) own
      ≡ (is_all_proper config id log k own || are_all_named_by config id reports || is_split_among config (initials id own reports))
  unfolding is_all_proper
  all_after =
      any_phase (λ j. are_all_named config id log j || is_split config id log j own) k one
      ∙ ap (λ b. is_all_proper config id log k own || b)
      (ap (λ b. b || is_split config id log k own) all_named_is ∙ ap (λ b. are_all_named_by config id reports || b) split_is)
      ∙ or_left_first (is_all_proper config id log k own) (are_all_named_by config id reports)
      (is_split_among config (initials id own reports))
    where
      or_left_first : (a b c : Bool) → (a || (b || c)) ≡ (a || b || c)
      or_left_first true b c = refl
      or_left_first false b c = refl

  -- the values that are named in a phase before n
  abbrev named_before : ℕ → ℕ → List Value
  named_before n j = cond (nat_lt j n) (filter (is_named config id log j) (values_in (listed_by_other id) j log)) []

  from_before : (x : Value) → Has (flat_map (named_before k) (range_with_len 1 k) ++ named_values config id reports) x
      → Has (flat_map (named_before (k + 1)) (range_with_len 1 (k + 1))) x
  from_before x h =
      elim (has_cases (flat_map (named_before k) (range_with_len 1 k)) (named_values config id reports) x h) [
        | inl old ↦
            (let j = flat_map_has (named_before k) (range_with_len 1 k) x old in
            elim (cases_Bool (nat_lt j.0 k)) [
              | inl lt ↦
                  (let less = ltb-true j.0 k lt in
                  let listed : Has (filter (is_named config id log j.0) (values_in (listed_by_other id) j.0 log)) x = simp lt at j.1.1 in
                  let still : nat_lt j.0 (k + 1) ≡ true = lt-ltb j.0 (k + 1) (omega arith) in
                  has_flat_map (named_before (k + 1)) (range_with_len 1 (k + 1)) j.0 x
                  (has_range 1 (k + 1) j.0 (range_from 1 k j.0 j.1.0) (omega arith)) (rw still listed))
              | inr past ↦ (let none : Has [] x = simp past at j.1.1 in absurd none)
            ])
        | inr new ↦
            (let f = filter_has (is_named_by config id reports) (flat_map (listed_by_other id) reports) x new in
            let now : nat_lt k (k + 1) ≡ true = lt-ltb k (k + 1) (omega arith) in
            has_flat_map (named_before (k + 1)) (range_with_len 1 (k + 1)) k x (has_range 1 (k + 1) k one (omega arith))
            (rw now (has_filter (is_named config id log k) (values_in (listed_by_other id) k log) x
            (values_noted (listed_by_other id) k config log reports read x f.0) (named_is x ∙ f.1))))
      ]

  to_before : (x : Value) → Has (flat_map (named_before (k + 1)) (range_with_len 1 (k + 1))) x
      → Has (flat_map (named_before k) (range_with_len 1 k) ++ named_values config id reports) x
  to_before x h =
      let j = flat_map_has (named_before (k + 1)) (range_with_len 1 (k + 1)) x h in
      elim (cases_Bool (nat_lt j.0 (k + 1))) [
        | inl lt ↦
            (let less = ltb-true j.0 (k + 1) lt in
            let listed : Has (filter (is_named config id log j.0) (values_in (listed_by_other id) j.0 log)) x = simp lt at j.1.1 in
            elim (cases_lt j.0 k) [
              | inl before ↦
                  (let old : nat_lt j.0 k ≡ true = lt-ltb j.0 k before in
                  has_left (flat_map (named_before k) (range_with_len 1 k)) (named_values config id reports) x
                  (has_flat_map (named_before k) (range_with_len 1 k) j.0 x
                  (has_range 1 k j.0 (range_from 1 (k + 1) j.0 j.1.0) (omega arith)) (rw old listed)))
              | inr now ↦
                  (let is : j.0 ≡ k = omega arith in
                  let here : Has (filter (is_named config id log k) (values_in (listed_by_other id) k log)) x =
                  subst (λ i. Has (filter (is_named config id log i) (values_in (listed_by_other id) i log)) x) is listed in
                  let f = filter_has (is_named config id log k) (values_in (listed_by_other id) k log) x here in
                  has_right (flat_map (named_before k) (range_with_len 1 k)) (named_values config id reports) x
                  (has_filter (is_named_by config id reports) (flat_map (listed_by_other id) reports) x
                  (values_read (listed_by_other id) k config log reports read x f.0) (sym (named_is x) ∙ f.1)))
            ])
        | inr past ↦ (let none : Has [] x = simp past at j.1.1 in absurd none)
      ]

  explicit_after : proper_values config id log (k + 1) own ≡ cut own (proper_values config id log k own ++ named_values config id reports)
  unfolding proper_values
  explicit_after =
      cut_same own (flat_map (named_before (k + 1)) (range_with_len 1 (k + 1)))
      (flat_map (named_before k) (range_with_len 1 k) ++ named_values config id reports) to_before from_before
      ∙ sym (cut_again own (flat_map (named_before k) (range_with_len 1 k)) (named_values config id reports))

pub begins_with_own : BeginsWithOwn
unfolding is_all_proper proper_values
begins_with_own config id log own = refl

pub absorbs_a_phase : AbsorbsAPhase
absorbs_a_phase config id log k own reports below one read =
    sym (absorbed-parts config id reports own (is_all_proper config id log k own) (is_all_proper config id log (k + 1) own)
    (proper_values config id log k own) (proper_values config id log (k + 1) own)
    (all_after config id log k own reports below one read) (explicit_after config id log k own reports below one read))
