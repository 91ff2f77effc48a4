-- One more frame is counted for one cause alone.
use Rattle.std.proofs.Common.{◌≡◌, ◌≢◌, ◌≤◌, ◌<◌, ℕ, ◌+◌, ◌-◌, ◌^◌, ◌==◌, List, length, slice_index, slice_set, min, ap, sym, inl, inr, ◌∙◌, arith}
use Rattle.std.proofs.lemmas.Bool.Decides.{eqb_tells}
use Rattle.std.proofs.lemmas.List.{get_or-set_same, get_or-set_other}
use Rattle.ledger_model.specs.Causes.{cause_number}
use Rattle.ledger_model.specs.declared.reply.Ignored.{Ignored}
use Rattle.ledger_model.specs.declared.reply.Ignored.TheVariants as cause
use Rattle.http_messages.specs.FrameCounts.{counted, cause_place}

-- causes have the numbers from 1 to 11
pub number_within : (c : Ignored) → (1 ≤ cause_number c) × (cause_number c ≤ 11)
number_within cause.Malformed = (omega arith, omega arith)
number_within cause.Signer = (omega arith, omega arith)
number_within cause.NoRow = (omega arith, omega arith)
number_within cause.WrongRound = (omega arith, omega arith)
number_within cause.WrongPhase = (omega arith, omega arith)
number_within cause.NotOwner = (omega arith, omega arith)
number_within cause.Repeated = (omega arith, omega arith)
number_within cause.BadSignature = (omega arith, omega arith)
number_within cause.BadProof = (omega arith, omega arith)
number_within cause.TableFull = (omega arith, omega arith)
number_within cause.NotMine = (omega arith, omega arith)

pub counts_one : (old : List ℕ) (why of : Ignored) (p n : ℕ) → p ≡ cause_place why → p < length old
    → n ≡ min (slice_index old p + 1) (2 ^ 64 - 1)
    → slice_index (slice_set old p n) (cause_place of) ≡ counted (cause_number why == cause_number of) (slice_index old (cause_place of))
counts_one old why of p n at within is = elim (eqb_tells (cause_number why) (cause_number of)) [
  | inl same ↦
      let here : cause_place of ≡ p = sym (at ∙ ap (λ k. k - 1) same.1) in
      ap (slice_index (slice_set old p n)) here ∙ get_or-set_same old p n 0 within ∙ is
      ∙ ap (λ q. min (slice_index old q + 1) (2 ^ 64 - 1)) (sym here)
      ∙ sym (ap (λ b. counted b (slice_index old (cause_place of))) same.0)
  | inr other ↦
      let low = number_within why in
      let low_of = number_within of in
      let elsewhere : cause_place of ≢ p = λ e. other.1 (omega (arith, e, at, low.0, low_of.0)) in
      get_or-set_other old p (cause_place of) n 0 elsewhere
      ∙ sym (ap (λ b. counted b (slice_index old (cause_place of))) other.0)
]
