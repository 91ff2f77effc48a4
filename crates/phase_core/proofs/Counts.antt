-- Counting reports with and without their signatures, and what more reports find.
use Rattle.std.proofs.Common.{◌≡◌, suc, ◌<◌, Bool, true, false, inl, inr, List, [], ◌∷◌, refl, ap, arith}
use Rattle.std.proofs.lemmas.Bool.{cases_Bool}
use Rattle.ledger_model.specs.declared.statement.Report.{Report}
use Rattle.ledger_model.specs.declared.statement.SignedReport.{SignedReport}
use Rattle.ledger_model.specs.Notes.{Has}
use Rattle.tally.specs.Tallies.{count_where}
use Rattle.tally.specs.Readings.{reports_of}

pub count_signed : (test : Report → Bool) (signed : List SignedReport)
    → count_where (λ s. test s.report) signed ≡ count_where test (reports_of signed)
count_signed test [] = refl
count_signed test (s ∷ signed) =
    let rest = count_signed test signed in
    elim (cases_Bool (test s.report)) [ inl e ↦ simp e (ap suc rest) | inr e ↦ simp e rest ]

-- where more pass one test than another, some element passes the one alone
pub passes_alone : {X : Type 0} (p q : X → Bool) (xs : List X) → count_where q xs < count_where p xs
    → (x : X) × (Has xs x × ((p x ≡ true) × (q x ≡ false)))
passes_alone p q [] h = absurd (omega arith)
passes_alone p q (x ∷ xs) h =
    elim (cases_Bool (p x)) [
      | inl yes_p ↦ elim (cases_Bool (q x)) [
        | inr no_q ↦ (x, (inl refl, (yes_p, no_q)))
        | inl yes_q ↦ (let g = simp (yes_p, yes_q) at h in let r = passes_alone p q xs (omega (arith, g)) in (r.0, (inr (r.1.0), r.1.1)))
      ]
      | inr no_p ↦ elim (cases_Bool (q x)) [
        | inr no_q ↦ (let g = simp (no_p, no_q) at h in let r = passes_alone p q xs g in (r.0, (inr (r.1.0), r.1.1)))
        | inl yes_q ↦ (let g = simp (no_p, yes_q) at h in let r = passes_alone p q xs (omega (arith, g)) in (r.0, (inr (r.1.0), r.1.1)))
      ]
    ]
