-- Counting reports with their signatures and without them.
use Rattle.std.proofs.Common.{◌≡◌, ℕ, suc, ◌+◌, Bool, true, false, not, ◌&&◌, List, [], ◌∷◌, length, refl, sym, ap}
use Rattle.std.proofs.Common.{◌∙◌, cond, arith}
use Rattle.std.specs.Prelude.{map, filter, nat_eq, ◌==◌}
use Rattle.std.specs.Int.{from_bool}
use Rattle.std.specs.List.{list_all}
use Rattle.std.proofs.lemmas.Bool.{ne_eqb}
use Rattle.std.proofs.lemmas.List.{length-map}
use Rattle.ledger_model.specs.declared.statement.Report.{Report}
use Rattle.ledger_model.specs.declared.statement.SignedReport.{SignedReport}
use Rattle.ledger_model.specs.Values.{Value}
use Rattle.tally.specs.Tallies.{Places, all_read, count_where}
use Rattle.tally.specs.Readings.{reports_of}
use Rattle.proper_sets.specs.Propriety.{others_where, initials}
use Rattle.tally.proofs.Counts.{count_where-map}

-- ---- counts

pub count_where-filter : {X : Type 0} (kept test : X → Bool) (xs : List X)
    → count_where test (filter kept xs) ≡ count_where (λ x. kept x && test x) xs
count_where-filter kept test [] = refl
count_where-filter kept test (x ∷ xs) =
    let rest = count_where-filter kept test xs in
    elim (kept x) as (λ b. length (filter test (cond b (x ∷ filter kept xs) (filter kept xs)))
    ≡ length (cond (b && test x) (x ∷ filter (λ y. kept y && test y) xs) (filter (λ y. kept y && test y) xs))) [
      | true ↦ elim (test x) as (λ t. length (cond t (x ∷ filter test (filter kept xs)) (filter test (filter kept xs)))
          ≡ length (cond t (x ∷ filter (λ y. kept y && test y) xs) (filter (λ y. kept y && test y) xs))) [
            | true ↦ ap suc rest
            | false ↦ rest
          ]
      | false ↦ rest
    ]

-- all pass where none fails
all_by_count : {X : Type 0} (test : X → Bool) (xs : List X) → list_all test xs ≡ nat_eq (count_where (λ x. not (test x)) xs) 0
all_by_count test [] = refl
all_by_count test (x ∷ xs) =
    elim (test x) as (λ b. (b && list_all test xs)
    ≡ nat_eq (length (cond (not b) (x ∷ filter (λ y. not (test y)) xs) (filter (λ y. not (test y)) xs))) 0) [
      | true ↦ all_by_count test xs
      | false ↦ sym (ne_eqb (suc (count_where (λ y. not (test y)) xs)) 0 (λ e. omega arith))
    ]

pub others_counted : (own : ℕ) (test : Report → Bool) (places : Places SignedReport)
    → others_where own test (reports_of (all_read places))
    ≡ count_where (λ s. not (s.report.signer == own) && test s.report) (all_read places)
others_counted own test places = count_where-map (λ s. s.report) (λ p. not (p.signer == own) && test p) (all_read places)

-- ---- initial values

-- how many of the initial values pass a test: the own one may, and those of others
pub initials_where : (own : ℕ) (initial : Value) (test : Value → Bool) (reports : List Report)
    → count_where test (initials own initial reports) ≡ from_bool (test initial) + others_where own (λ p. test p.initial) reports
initials_where own initial test reports =
    let others : count_where test (map (λ p. p.initial) (filter (λ p. not (p.signer == own)) reports))
    ≡ others_where own (λ p. test p.initial) reports
    = count_where-map (λ p. p.initial) test (filter (λ p. not (p.signer == own)) reports)
    ∙ count_where-filter (λ p. not (p.signer == own)) (λ p. test p.initial) reports in
    elim (test initial) as (λ b. length
    (cond b (initial ∷ filter test (map (λ p. p.initial) (filter (λ p. not (p.signer == own)) reports)))
    (filter test (map (λ p. p.initial) (filter (λ p. not (p.signer == own)) reports))))
    ≡ from_bool b + others_where own (λ p. test p.initial) reports) [
      | true ↦ omega (arith, others)
      | false ↦ omega (arith, others)
    ]

pub initials_counted : (own : ℕ) (initial : Value) (test : Value → Bool) (places : Places SignedReport)
    → count_where test (initials own initial (reports_of (all_read places)))
    ≡ from_bool (test initial) + count_where (λ s. not (s.report.signer == own) && test s.report.initial) (all_read places)
initials_counted own initial test places =
    initials_where own initial test (reports_of (all_read places))
    ∙ ap (λ n. from_bool (test initial) + n) (others_counted own (λ p. test p.initial) places)

pub initials_known : (own : ℕ) (initial : Value) (places : Places SignedReport)
    → length (initials own initial (reports_of (all_read places))) ≡ count_where (λ s. not (s.report.signer == own)) (all_read places) + 1
initials_known own initial places =
    let others = length-map (filter (λ p. not (p.signer == own)) (reports_of (all_read places))) (λ p. p.initial) in
    let counted = count_where-map (λ s. s.report) (λ p. not (p.signer == own)) (all_read places) in
    omega (arith, others, counted)

-- every other's initial value passes where none fails
pub initials_pass : (own : ℕ) (initial : Value) (test : Value → Bool) (places : Places SignedReport)
    → list_all test (initials own initial (reports_of (all_read places)))
    ≡ (test initial && nat_eq (count_where (λ s. not (s.report.signer == own) && not (test s.report.initial)) (all_read places)) 0)
initials_pass own initial test places =
    ap (λ b. test initial && b)
    (all_by_count test (map (λ p. p.initial) (filter (λ p. not (p.signer == own)) (reports_of (all_read places))))
    ∙ ap (λ n. nat_eq n 0)
    (count_where-map (λ p. p.initial) (λ v. not (test v)) (filter (λ p. not (p.signer == own)) (reports_of (all_read places)))
    ∙ count_where-filter (λ p. not (p.signer == own)) (λ p. not (test p.initial)) (reports_of (all_read places))
    ∙ others_counted own (λ p. not (test p.initial)) places))
