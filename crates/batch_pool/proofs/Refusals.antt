-- The pool's own refusals, and the causes that follow them.
use Rattle.std.proofs.Common.{◌≡◌, ℕ, Bool, true, false, List, [], ◌∷◌, ◌++◌, refl, sym, ◌∙◌}
use Rattle.std.specs.Prelude.{◌==◌, not, Result, Ok, Err}
use Rattle.std.proofs.lemmas.Bool.{ne_eqb}
use Rattle.ledger_model.specs.declared.reply.SubmitRefusal.{SubmitRefusal}
use Rattle.ledger_model.specs.declared.reply.SubmitRefusal.TheVariants as refusal
use Rattle.ledger_model.specs.Pools.{first_fault}

-- the first that fits is the first of more
pub fits_first : (ts us : List (Bool × SubmitRefusal)) (f : SubmitRefusal) → first_fault {X = Unit {0}} ts tt ≡ Err f
    → first_fault {X = Unit {0}} (ts ++ us) tt ≡ Err f
fits_first [] us f is = absurd (cc)
fits_first ((true, e) ∷ ts) us f is = is
fits_first ((false, e) ∷ ts) us f is = fits_first ts us f is

-- where none fits the others decide
pub fits_none : (ts us : List (Bool × SubmitRefusal)) → first_fault {X = Unit {0}} ts tt ≡ Ok tt
    → first_fault {X = Unit {0}} (ts ++ us) tt ≡ first_fault us tt
fits_none [] us is = refl
fits_none ((true, e) ∷ ts) us is = absurd (cc)
fits_none ((false, e) ∷ ts) us is = fits_none ts us is

-- a transaction that CheckTx refuses, and one that it accepts
pub rejected : (ts : List (Bool × SubmitRefusal)) (code : ℕ) → first_fault {X = Unit {0}} ts tt ≡ Ok tt → (code ≡ 0 → ⊥)
    → ◌≡◌ {A = Result (Unit {0}) SubmitRefusal} (Err (refusal.Rejected code))
    (first_fault (ts ++ (not (code == 0), refusal.Rejected code) ∷ []) tt)
rejected ts code none other = sym (fits_none ts ((not (code == 0), refusal.Rejected code) ∷ []) none ∙ rw (ne_eqb code 0 other) refl)

pub accepted : (ts : List (Bool × SubmitRefusal)) (code : ℕ) → first_fault {X = Unit {0}} ts tt ≡ Ok tt → code ≡ 0
    → ◌≡◌ {A = Result (Unit {0}) SubmitRefusal} (Ok tt) (first_fault (ts ++ (not (code == 0), refusal.Rejected code) ∷ []) tt)
accepted ts code none zero = sym (fits_none ts ((not (code == 0), refusal.Rejected code) ∷ []) none ∙ rw zero refl)
