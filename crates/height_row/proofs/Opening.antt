-- A height that may be opened.
use Rattle.std.proofs.Common.{◌≡◌, ℕ, ◌≤◌, Bool, true, false, List, [], ◌∷◌, ◌+◌, refl, arith}
use Rattle.std.specs.Prelude.{◌==◌, ◌||◌, nat_lt, None, is_some, Ok}
use Rattle.std.proofs.lemmas.Bool.{eqb-false, ltb-false, or_parts}
use Rattle.std.proofs.option.Match.{None-if_not_some}
use Rattle.ledger_model.specs.declared.reply.ProposeRefusal.{ProposeRefusal}
use Rattle.ledger_model.specs.declared.reply.ProposeRefusal.TheVariants as refusal
use Rattle.ledger_model.specs.Limits.{max_height, max_ahead}
use Rattle.ledger_model.specs.Commits.{first_fault}
use Rattle.instance.specs.Instances.{InstanceView}
use Rattle.height_row.specs.Heights.{row_at, open_answer}

-- it is one of the heights, not below the floor, and not open
pub record MayBeOpened (floor : ℕ) (rows : List InstanceView) (h : ℕ) : Type 0 where
  pub low : 1 ≤ h
  pub high : h ≤ max_height
  pub kept : floor ≤ h
  pub none : row_at rows h ≡ None

-- the first three of four tests don't fit, where none does
none_fits : (a b c d : Bool) (k l m n : ProposeRefusal)
    → first_fault {X = Unit {0}} ((a, k) ∷ (b, l) ∷ (c, m) ∷ (d, n) ∷ []) tt ≡ Ok tt → (a ≡ false) × (b ≡ false) × (c ≡ false)
none_fits true b c d k l m n is = absurd cc
none_fits false true c d k l m n is = absurd cc
none_fits false false true d k l m n is = absurd cc
none_fits false false false d k l m n is = (refl, refl, refl)

-- where no refusal fits
pub may_be_opened : (floor : ℕ) (rows : List InstanceView) (committed h : ℕ) → open_answer floor rows committed h ≡ Ok tt
    → MayBeOpened floor rows h
may_be_opened floor rows committed h is =
    let parts = none_fits ((h == 0) || nat_lt max_height h) (nat_lt h floor) (is_some (row_at rows h)) (nat_lt (committed + max_ahead) h)
    refusal.Closed refusal.Retired refusal.AlreadyOpen refusal.TooFar is in
    let bounds = or_parts (h == 0) (nat_lt max_height h) parts.0 in
    let low = eqb-false h 0 bounds.0 in
    let high = ltb-false max_height h bounds.1 in
    record { low = omega (arith, low); high = high; kept = ltb-false h floor parts.1; none = None-if_not_some (row_at rows h) parts.2 }
