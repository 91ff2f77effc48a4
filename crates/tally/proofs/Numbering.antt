-- Values keep their numbers, and each value that a report contains gets one.
use Rattle.std.proofs.Common.{◌≡◌, ℕ, zero, suc, ◌+◌, ◌<◌, ◌≤◌, ◌^◌, Bool, true, false, inl, inr, List, [], ◌∷◌, ◌++◌, length}
use Rattle.std.proofs.Common.{refl, sym}
use Rattle.std.proofs.Common.{ap, subst, ◌∙◌, cond, arith, length-append}
use Rattle.std.specs.Prelude.{Option, Some, None, map, slice_get, get_or, slice_set, bit_or}
use Rattle.std.specs.List.{list_any, find, filter_map, cons_option}
use Rattle.std.specs.Option.{option_map_or}
use Rattle.std.proofs.lemmas.Bool.{cases_Bool, cases_eq, false≢true, or_left}
use Rattle.std.proofs.lemmas.List.Folds.{list_any-append}
use Rattle.ledger_model.specs.declared.statement.SignedReport.{SignedReport}
use Rattle.ledger_model.specs.Notes.{Has}
use Rattle.ledger_model.specs.Values.{Value, same_value}
use Rattle.ledger_model.proofs.Lists.{any_has, has_any, has_cases, has_left, has_right, has_map, any_mapped, same_value-refl, found_has}
use Rattle.ledger_model.proofs.Lists.{same_value-equal, has_index}
use Rattle.tally.specs.Tallies.{Places, read_of, count_where}
use Rattle.tally.specs.Masks.{mask_of}
use Rattle.tally.specs.ReportMasks.{values_within, begins_with, lists_proper, lists_lock, listed_value, numbered_value, is_of, is_numbered}
use Rattle.tally.specs.ReportMasks.{AreMasksOf, IsReported}
use Rattle.tally.specs.ReportMasks.{AreAllNumbered, AreValuesOf, unmarked, with_number, with_numbers, marked_by, marked}
use Rattle.tally.specs.declared.reported_value.ReportedValue.{ReportedValue}
use Rattle.tally.proofs.Counts.{count_where-map, count_where-append, count_where-same, count_where-none}
use Rattle.tally.proofs.MaskBits.{mask_same, mask_never, mask_put}
use Rattle.tally.proofs.Puts.{read_put, there_now, there_still}

-- ---- what reports contain

begins_within : (v : Value) (s : SignedReport) → begins_with v s ≡ true → Has (values_within s.report) v
begins_within v s e = inl (sym (same_value-equal v s.report.initial e))

proper_within : (v : Value) (s : SignedReport) → lists_proper v s ≡ true → Has (values_within s.report) v
proper_within v s e =
    let found = any_has (same_value v) s.report.proper e in
    inr (has_left s.report.proper s.report.locked v
    (subst (λ x. Has s.report.proper x) (sym (same_value-equal v found.0 found.1.1)) found.1.0))

lock_within : (v : Value) (s : SignedReport) → lists_lock v s ≡ true → Has (values_within s.report) v
lock_within v s e =
    let found = any_has (same_value v) s.report.locked e in
    inr (has_right s.report.proper s.report.locked v
    (subst (λ x. Has s.report.locked x) (sym (same_value-equal v found.0 found.1.1)) found.1.0))

-- ---- numbers

is_of-there : (places : Places SignedReport) (v : Value) (e : ReportedValue) → numbered_value places e ≡ Some v → is_of places v e ≡ true
is_of-there places v e there = ap (λ o. option_map_or (same_value v) o false) there ∙ same_value-refl v

pub there-is_of : (places : Places SignedReport) (v : Value) (e : ReportedValue) → is_of places v e ≡ true → numbered_value places e ≡ Some v
there-is_of places v e is = at (numbered_value places e) refl
  where
    at : (o : Option Value) → numbered_value places e ≡ o → numbered_value places e ≡ Some v
    at None none = absurd (false≢true (sym (ap (λ p. option_map_or (same_value v) p false) none) ∙ is))
    at (Some w) some =
        some ∙ ap Some (sym (same_value-equal v w (sym (ap (λ p. option_map_or (same_value v) p false) some) ∙ is)))

numbered-left : (places : Places SignedReport) (values more : List ReportedValue) (v : Value) → is_numbered places values v ≡ true
    → is_numbered places (values ++ more) v ≡ true
unfolding is_numbered
numbered-left places values more v e =
    list_any-append (is_of places v) values more ∙ or_left (list_any (is_of places v) values) (list_any (is_of places v) more) e

numbered-last : (places : Places SignedReport) (values : List ReportedValue) (e : ReportedValue) (v : Value) → numbered_value places e ≡ Some v
    → is_numbered places (values ++ e ∷ []) v ≡ true
unfolding is_numbered
numbered-last places values e v there =
    has_any (is_of places v) (values ++ e ∷ []) e (has_right values (e ∷ []) e (inl refl)) (is_of-there places v e there)

-- a value that has no number is in no report whose values have numbers
unlisted : (places read : Places SignedReport) (values : List ReportedValue) (v : Value) → AreAllNumbered places read values
    → is_numbered places values v ≡ false → (test : SignedReport → Bool)
    → ((s : SignedReport) → test s ≡ true → Has (values_within s.report) v) → 0 ≡ mask_of test read
unlisted places read values v every none test within =
    sym (mask_same test (λ s. false) read (λ r s there.
    elim (cases_Bool (test s)) [
      | inl passes ↦ absurd (false≢true (sym none ∙ every r s there v (within s passes)))
      | inr fails ↦ fails
    ]) ∙ mask_never read)

pub unlisted_masks : (places read : Places SignedReport) (values : List ReportedValue) (v : Value) → AreAllNumbered places read values
    → is_numbered places values v ≡ false → AreMasksOf read v (record { initial = 0; proper = 0; locked = 0 })
unlisted_masks places read values v every none = record {
  initial = unlisted places read values v every none (begins_with v) (begins_within v);
  proper = unlisted places read values v every none (lists_proper v) (proper_within v);
  locked = unlisted places read values v every none (lists_lock v) (lock_within v);
}

-- the numbered values are in reports, and each value of the read ones has a number
record AreNumbered (places read : Places SignedReport) (values : List ReportedValue) : Type 0 where
  each : (e : ReportedValue) → Has values e → IsReported places read e
  every : AreAllNumbered places read values
  once : (v : Value) → count_where (is_of places v) values ≤ 1

-- a value that has no number has one once it gets one
once_more : (places : Places SignedReport) (values : List ReportedValue) (e : ReportedValue) (v : Value)
    → ((w : Value) → count_where (is_of places w) values ≤ 1) → numbered_value places e ≡ Some v → is_numbered places values v ≡ false
    → (w : Value) → count_where (is_of places w) (values ++ e ∷ []) ≤ 1
unfolding is_numbered
once_more places values e v once there none w =
    let all = count_where-append (is_of places w) values (e ∷ []) in
    elim (cases_Bool (is_of places w e)) [
      | inl is ↦
          (let same : v ≡ w = let other = there-is_of places w e is in cc in
          let before = count_where-none (is_of places w) values (subst (λ u. list_any (is_of places u) values ≡ false) same none) in
          let last : count_where (is_of places w) (e ∷ []) ≡ 1 = simp is refl in
          omega (arith, all, before, last))
      | inr other ↦
          (let last : count_where (is_of places w) (e ∷ []) ≡ 0 = simp other refl in
          let before = once w in
          omega (arith, all, before, last))
    ]

module _ (places read : Places SignedReport) (r : ℕ) where
  -- one more value of the report of replica r has a number
  one_more : (i : ℕ) (values : List ReportedValue) → AreNumbered places read values
      → AreNumbered places read (with_number places r i values)
  one_more i values h = at (listed_value places r i) refl
    where
      numbers : Option Value → List ReportedValue
      numbers o = cond (option_map_or (is_numbered places values) o true) values (values ++ unmarked r i ∷ [])

      fresh : (v : Value) → listed_value places r i ≡ Some v → is_numbered places values v ≡ false
          → AreNumbered places read (values ++ unmarked r i ∷ [])
      fresh v there none = record {
        each = λ e has. elim (has_cases values (unmarked r i ∷ []) e has) [
          | inl old ↦ h.each e old
          | inr new ↦ elim new [
            | inl is ↦ subst (IsReported places read) is
                (record { value = v; is_there = there; masks = unlisted_masks places read values v h.every none })
            | inr never ↦ absurd never
          ]
        ];
        every = λ q s is v' has. numbered-left places values (unmarked r i ∷ []) v' (h.every q s is v' has);
        once = once_more places values (unmarked r i) v h.once there none;
      }

      at : (o : Option Value) → listed_value places r i ≡ o → AreNumbered places read (with_number places r i values)
      at None none = subst (λ p. AreNumbered places read (numbers p)) (sym none) h
      at (Some v) there = subst (λ p. AreNumbered places read (numbers p)) (sym there)
          (elim (cases_Bool (is_numbered places values v)) [
            | inl known ↦ rw known h
            | inr none ↦ rw none (fresh v there none)
          ])

  all_more : (n : ℕ) (values : List ReportedValue) → AreNumbered places read values
      → AreNumbered places read (with_numbers places r n values)
  all_more zero values h = h
  all_more (suc n) values h = one_more n (with_numbers places r n values) (all_more n values h)

-- what has a number keeps it
module _ (places : Places SignedReport) (r : ℕ) where
  kept_by_one : (i : ℕ) (values : List ReportedValue) (v : Value) → is_numbered places values v ≡ true
      → is_numbered places (with_number places r i values) v ≡ true
  kept_by_one i values v e =
      elim (option_map_or (is_numbered places values) (listed_value places r i) true) as
      (λ b. is_numbered places (cond b values (values ++ unmarked r i ∷ [])) v ≡ true) [
        | true ↦ e
        | false ↦ numbered-left places values (unmarked r i ∷ []) v e
      ]

  -- the value at an index has a number afterwards
  put_by_one : (i : ℕ) (values : List ReportedValue) (v : Value) → listed_value places r i ≡ Some v
      → is_numbered places (with_number places r i values) v ≡ true
  put_by_one i values v there =
      subst (λ o. is_numbered places (cond (option_map_or (is_numbered places values) o true) values (values ++ unmarked r i ∷ [])) v
      ≡ true)
      (sym there)
      (elim (cases_Bool (is_numbered places values v)) [
        | inl known ↦ rw known known
        | inr none ↦ rw none (numbered-last places values (unmarked r i) v there)
      ])

  put_by_all : (n i : ℕ) (values : List ReportedValue) (v : Value) → i < n → listed_value places r i ≡ Some v
      → is_numbered places (with_numbers places r n values) v ≡ true
  put_by_all zero i values v below there = absurd (omega arith)
  put_by_all (suc n) i values v below there =
      elim (cases_eq i n) [
        | inl last ↦ put_by_one n (with_numbers places r n values) v (ap (listed_value places r) (sym last) ∙ there)
        | inr earlier ↦ kept_by_one n (with_numbers places r n values) v
            (put_by_all n i values v (omega arith) there)
      ]

  pub with_number-few : (i : ℕ) (values : List ReportedValue) → length (with_number places r i values) ≤ length values + 1
  with_number-few i values =
      elim (option_map_or (is_numbered places values) (listed_value places r i) true) as
      (λ b. length (cond b values (values ++ unmarked r i ∷ [])) ≤ length values + 1) [
        | true ↦ omega arith
        | false ↦ omega (arith, length-append values (unmarked r i ∷ []))
      ]

  pub with_numbers-few : (n : ℕ) (values : List ReportedValue) → length (with_numbers places r n values) ≤ length values + n
  with_numbers-few zero values = omega arith
  with_numbers-few (suc n) values =
      omega (arith, with_numbers-few n values, with_number-few n (with_numbers places r n values))

-- ---- a report is put into an empty place

module _ (old : Places SignedReport) (r : ℕ) (s : SignedReport) (below : r < length old) (none : read_of old r ≡ None) where
  abbrev new : Places SignedReport
  new = slice_set old r (Some s)

  -- a value is where it was
  still_there : (e : ReportedValue) (v : Value) → numbered_value old e ≡ Some v → numbered_value new e ≡ Some v
  still_there e v there = at (read_of old e.signer) refl
    where
      within : Option SignedReport → Option Value
      within o = option_map_or (λ t. slice_get (values_within t.report) e.index) o None

      at : (o : Option SignedReport) → read_of old e.signer ≡ o → numbered_value new e ≡ Some v
      at None empty = let wrong : None ≡ Some v = sym (ap within empty) ∙ there in cc
      at (Some t) is = ap within (there_still old r e.signer s t none is) ∙ sym (ap within is) ∙ there

  before : (values : List ReportedValue) → AreValuesOf old values → AreNumbered new old values
  unfolding is_numbered
  before values h = record {
    each = λ e has. let k = h.each e has in record { value = k.value; is_there = still_there e k.value k.is_there; masks = k.masks };
    every = λ q t is v within.
        let found = any_has (is_of old v) values (h.every q t is v within) in
        has_any (is_of new v) values found.0 found.1.0
        (is_of-there new v found.0 (still_there found.0 v (there-is_of old v found.0 found.1.1)));
    once = λ v.
        let same = count_where-same (is_of new v) (is_of old v) values (λ e has.
        let k = h.each e has in ap (λ o. option_map_or (same_value v) o false) (still_there e k.value k.is_there ∙ sym k.is_there)) in
        let before = h.once v in
        omega (arith, same, before);
  }

  marked_masks : (v : Value) (e : ReportedValue) → AreMasksOf old v e.masks → AreMasksOf new v (marked_by s (2 ^ r) v e.masks)
  marked_masks v e h = record {
    initial = ap (λ m. bit_or m (cond (begins_with v s) (2 ^ r) 0)) h.initial ∙ sym (mask_put (begins_with v) old r s below none);
    proper = ap (λ m. bit_or m (cond (lists_proper v s) (2 ^ r) 0)) h.proper ∙ sym (mask_put (lists_proper v) old r s below none);
    locked = ap (λ m. bit_or m (cond (lists_lock v s) (2 ^ r) 0)) h.locked ∙ sym (mask_put (lists_lock v) old r s below none);
  }

  marked_value : (e : ReportedValue) → IsReported new old e → IsReported new new (marked new s (2 ^ r) e)
  marked_value e h = record {
    value = h.value;
    is_there = h.is_there;
    masks = subst (λ o. AreMasksOf new h.value (option_map_or (λ v. marked_by s (2 ^ r) v e.masks) o e.masks)) (sym h.is_there)
        (marked_masks h.value e h.masks);
  }

  -- the values that the reports contain, with those of one report more
  pub values_with : (values : List ReportedValue) → AreValuesOf old values
      → AreValuesOf new (map (marked new s (2 ^ r)) (with_numbers new r (length (values_within s.report)) values))
  unfolding is_numbered
  values_with values h = record {
    each = λ e has.
        let from = has_map (marked new s (2 ^ r)) numbered e has in
        subst (IsReported new new) from.1.1 (marked_value from.0 (kept.each from.0 from.1.0));
    every = λ q t is v within.
        any_mapped (is_of new v) (marked new s (2 ^ r)) numbered
        ∙ elim (read_put old r q s t is) [
          | inl here ↦
              let has : Has (values_within s.report) v = subst (λ (u : SignedReport). Has (values_within u.report) v) (sym here.1) within in
              let i = has_index (values_within s.report) v has in
              put_by_all new r (length (values_within s.report)) i.0 values v i.1.0
              (ap (λ o. option_map_or (λ (u : SignedReport). slice_get (values_within u.report) i.0) o None)
              (there_now old r s below) ∙ i.1.1)
          | inr earlier ↦ kept.every q t earlier v within
        ];
    once = λ v. let same = count_where-map (marked new s (2 ^ r)) (is_of new v) numbered in let before = kept.once v in omega
        (arith, same, before);
  }
    where
      numbered : List ReportedValue
      numbered = with_numbers new r (length (values_within s.report)) values

      kept : AreNumbered new old numbered
      kept = all_more new old r (length (values_within s.report)) values (before values h)

-- ---- looking a value up

not_found : {X : Type 0} (p : X → Bool) (xs : List X) → find p xs ≡ None → list_any p xs ≡ false
not_found p [] e = refl
not_found p (y ∷ ys) e =
    elim (cases_Bool (p y)) [
      | inl here ↦ (let some : Some y ≡ None = simp here at e in cc)
      | inr other ↦ (let later : find p ys ≡ None = simp other at e in simp other (not_found p ys later))
    ]

-- the masks of the number that was found are those of the value
pub found_masks : (places : Places SignedReport) (values : List ReportedValue) (v : Value) (e : ReportedValue) → AreValuesOf places values
    → find (is_of places v) values ≡ Some e → AreMasksOf places v e.masks
found_masks places values v e h is =
    let there = found_has (is_of places v) values e is in
    let k = h.each e there.0 in
    let same : k.value ≡ v = let one = k.is_there in let other = there-is_of places v e there.1 in cc in
    subst (λ w. AreMasksOf places w e.masks) same k.masks

pub missing_masks : (places : Places SignedReport) (values : List ReportedValue) (v : Value) → AreValuesOf places values
    → find (is_of places v) values ≡ None
    → AreMasksOf places v (record { initial = 0; proper = 0; locked = 0 })
unfolding is_numbered
missing_masks places values v h none = unlisted_masks places places values v h.every (not_found (is_of places v) values none)
