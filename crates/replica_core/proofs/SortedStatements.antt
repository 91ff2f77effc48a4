-- Statements whose heights never fall are the statements of the open heights, one height after the other.
use Rattle.std.proofs.Common.{◌≡◌, ℕ, ◌<◌, ◌≤◌, true, false, ◌||◌, inl, inr, List, [], ◌∷◌, ◌++◌, refl, sym, ap, subst, ◌∙◌, arith, eq-eqb}
use Rattle.std.specs.Prelude.{◌==◌, nat_lt, map, Option, Some, None}
use Rattle.std.specs.List.{flat_map, AllByRecursion}
use Rattle.std.proofs.lemmas.Bool.{cases_Bool, eqb-true, eqb-false, ne_eqb, and_parts, ltb-true}
use Rattle.std.proofs.lemmas.List.Elements.{filter-append}
use Rattle.ledger_model.specs.declared.statement.SignedStatement.{SignedStatement}
use Rattle.ledger_model.specs.Notes.{Has}
use Rattle.ledger_model.specs.Lawful.{never_falls}
use Rattle.ledger_model.proofs.Lists.{has_filter, each_from, each_weaker, filter_none}
use Rattle.instance.specs.Instances.{InstanceView}
use Rattle.height_row.specs.Heights.{row_at, AreAscending}
use Rattle.replica_core.proofs.AscendingRows.{found_has, found_height}
use Rattle.replica_core.proofs.SentHeights.{height_in}
use Rattle.replica_core.proofs.AllHeights.{of_height}

-- the second is at least the first
step_rises : (a b : ℕ) → (nat_lt a b || (a == b)) ≡ true → a ≤ b
step_rises a b h = elim (cases_Bool (nat_lt a b)) [
  | inl below ↦ (let lt = ltb-true a b below in omega (arith, lt))
  | inr not_below ↦ (let same = eqb-true a b (rw not_below at h) in omega (arith, same))
]

-- after the first nothing falls
tail_rises : (s : SignedStatement) (ss : List SignedStatement) → never_falls (map height_in (s ∷ ss)) ≡ true
    → never_falls (map height_in ss) ≡ true
tail_rises s [] h = refl
tail_rises s (t ∷ ts) h = (and_parts (nat_lt (height_in s) (height_in t) || (height_in s == height_in t))
    (never_falls (map height_in (t ∷ ts))) h).1

-- and each is at least of its height
all_above : (s : SignedStatement) (ss : List SignedStatement) → never_falls (map height_in (s ∷ ss)) ≡ true
    → AllByRecursion (λ t. height_in s ≤ height_in t) ss
all_above s [] h = tt
all_above s (t ∷ ts) h =
    let both = and_parts (nat_lt (height_in s) (height_in t) || (height_in s == height_in t)) (never_falls (map height_in (t ∷ ts))) h in
    let first = step_rises (height_in s) (height_in t) both.0 in (
      first,
      each_weaker (λ u. height_in t ≤ height_in u) (λ u. height_in s ≤ height_in u) ts (λ u next. omega (arith, first, next))
          (all_above t ts both.1),
    )

-- those of the lowest height stand in front
record Parted (h : ℕ) (ss : List SignedStatement) : Type 0 where
  back : List SignedStatement
  is : ss ≡ of_height h ss ++ back
  above : AllByRecursion (λ s. h < height_in s) back
  rises : never_falls (map height_in back) ≡ true

parted : (h : ℕ) (ss : List SignedStatement) → never_falls (map height_in ss) ≡ true → AllByRecursion (λ s. h ≤ height_in s) ss
    → Parted h ss
parted h [] rises least = record { back = []; is = refl; above = tt; rises = refl }
parted h (s ∷ ss) rises least = elim (cases_Bool (height_in s == h)) [
  | inl here ↦
      let rest = parted h ss (tail_rises s ss rises) least.1 in
      record { back = rest.back; is = rw here (ap (λ ts. s ∷ ts) rest.is); above = rest.above; rises = rest.rises }
  | inr other ↦
      let not_here = eqb-false (height_in s) h other in
      let least_first = least.0 in
      let first : h < height_in s = omega (arith, not_here, least_first) in
      let higher = each_weaker (λ t. height_in s ≤ height_in t) (λ t. h < height_in t) ss (λ t next. omega (arith, first, next))
      (all_above s ss rises) in
      let none : of_height h ss ≡ [] =
      filter_none (λ t. height_in t == h) ss
      (each_weaker (λ t. h < height_in t) (λ t. (height_in t == h) ≡ false) ss
      (λ t lt. ne_eqb (height_in t) h (λ e. omega (arith, e, lt))) higher) in
      record { back = s ∷ ss; is = rw (other, none) refl; above = (first, higher); rises = rises }
]

-- none of a height stands there, where all are above it
none_above : (h : ℕ) (ss : List SignedStatement) → AllByRecursion (λ s. h < height_in s) ss → of_height h ss ≡ []
none_above h ss above =
    filter_none (λ s. height_in s == h) ss
    (each_weaker (λ s. h < height_in s) (λ s. (height_in s == h) ≡ false) ss
    (λ s lt. ne_eqb (height_in s) h (λ e. omega (arith, e, lt))) above)

-- those of the height itself
all_of : (h : ℕ) (ss : List SignedStatement) → AllByRecursion (λ s. height_in s ≡ h) (of_height h ss)
all_of h [] = tt
all_of h (s ∷ ss) = elim (cases_Bool (height_in s == h)) [
  | inl here ↦ rw here (eqb-true (height_in s) h here, all_of h ss)
  | inr other ↦ rw other (all_of h ss)
]

-- among those of one height none is of another
none_of_other : (h other : ℕ) (ss : List SignedStatement) → (h ≡ other → ⊥) → of_height other (of_height h ss) ≡ []
none_of_other h other ss apart =
    filter_none (λ s. height_in s == other) (of_height h ss)
    (each_weaker (λ s. height_in s ≡ h) (λ s. (height_in s == other) ≡ false) (of_height h ss)
    (λ s e. ne_eqb (height_in s) other (λ f. apart (sym e ∙ f))) (all_of h ss))

-- those of another height come after
of_back : (h other : ℕ) (ss : List SignedStatement) (p : Parted h ss) → (h ≡ other → ⊥) → of_height other ss ≡ of_height other p.back
of_back h other ss p apart =
    ap (of_height other) p.is ∙ filter-append (λ s. height_in s == other) (of_height h ss) p.back
    ∙ ap (λ ts. ts ++ of_height other p.back) (none_of_other h other ss apart)

-- the same lists, joined
joined_same : (f g : InstanceView → List SignedStatement) (rows : List InstanceView) → AllByRecursion (λ row. f row ≡ g row) rows
    → flat_map f rows ≡ flat_map g rows
joined_same f g [] same = refl
joined_same f g (row ∷ rows) same = ap (λ ss. ss ++ flat_map f rows) same.0 ∙ ap (λ ss. g row ++ ss) (joined_same f g rows same.1)

-- each statement is of a height that is open
OnlyOpen : List InstanceView → List SignedStatement → Type 0
OnlyOpen rows ss = (h : ℕ) → row_at rows h ≡ None → of_height h ss ≡ []

-- so none is below the first of them
least_first : (row : InstanceView) (rows : List InstanceView) (ss : List SignedStatement)
    → AllByRecursion (λ later. row.height < later.height) rows
    → ((h : ℕ) → row_at (row ∷ rows) h ≡ None → of_height h ss ≡ []) → AllByRecursion (λ s. row.height ≤ height_in s) ss
least_first row rows ss ascend only =
    each_from (λ s. row.height ≤ height_in s) ss (λ s has. by s has (row_at (row ∷ rows) (height_in s)) refl)
  where
    all : AllByRecursion (λ r. row.height ≤ r.height) (row ∷ rows)
    all = (
      omega arith,
      each_weaker (λ later. row.height < later.height) (λ later. row.height ≤ later.height) rows
          (λ later lt. omega (arith, lt)) ascend,
    )

    by : (s : SignedStatement) → Has ss s → (o : Option InstanceView) → row_at (row ∷ rows) (height_in s) ≡ o → row.height ≤ height_in s
    by s has None none = absurd (subst (λ ts. Has ts s) (only (height_in s) none)
        (has_filter (λ t. height_in t == height_in s) ss s has (eq-eqb (height_in s) (height_in s) refl)))
    by s has (Some r) is = subst (λ n. row.height ≤ n) (found_height (row ∷ rows) (height_in s) r is)
        (found_has (λ r. row.height ≤ r.height) (row ∷ rows) (height_in s) r all is)

-- one height after the other they are all
pub all_parted : (rows : List InstanceView) (ss : List SignedStatement) → AreAscending rows → never_falls (map height_in ss) ≡ true
    → ((h : ℕ) → row_at rows h ≡ None → of_height h ss ≡ []) → flat_map (λ row. of_height row.height ss) rows ≡ ss
all_parted [] [] ascend rises only = refl
all_parted [] (s ∷ ss) ascend rises only =
    (let none = rw (eq-eqb (height_in s) (height_in s) refl) at (only (height_in s) refl) in absurd (cc none))
all_parted (row ∷ rows) ss ascend rises only =
    let p = parted row.height ss rises (least_first row rows ss ascend.0 only) in
    let apart = λ (r : InstanceView) (lt : row.height < r.height). of_back row.height r.height ss p (λ e. omega (arith, e, lt)) in
    let later = joined_same (λ r. of_height r.height ss) (λ r. of_height r.height p.back) rows
    (each_weaker (λ r. row.height < r.height) (λ r. of_height r.height ss ≡ of_height r.height p.back) rows apart ascend.0) in
    ap (λ ts. of_height row.height ss ++ ts) (later ∙ all_parted rows p.back ascend.1 p.rises (only_back p))
    ∙ sym p.is
  where
    only_back : (p : Parted row.height ss) → (h : ℕ) → row_at rows h ≡ None → of_height h p.back ≡ []
    only_back p h none = elim (cases_Bool (row.height == h)) [
      | inl here ↦ subst (λ n. of_height n p.back ≡ []) (eqb-true row.height h here) (none_above row.height p.back p.above)
      | inr other ↦ sym (of_back row.height h ss p (eqb-false row.height h other)) ∙ only h (rw other none)
    ]
