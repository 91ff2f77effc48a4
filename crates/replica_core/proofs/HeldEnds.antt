-- The core state stays within its limits as a round opens, whatever is made.
use Rattle.std.proofs.Common.{◌≡◌, ℕ, ◌+◌, ◌<◌, inl, inr, Bool, List, [], ◌∷◌, refl, ap, subst, ◌∙◌, arith}
use Rattle.std.specs.Prelude.{◌==◌, Some}
use Rattle.std.proofs.lemmas.Bool.{cases_Bool}
use Rattle.ledger_model.specs.Limits.{last_round}
use Rattle.instance.specs.declared.round_statement.RoundStatement.{RoundStatement}
use Rattle.instance.specs.Instances.{InstanceView}
use Rattle.instance.specs.Reads.{IsSameHeight}
use Rattle.instance.specs.Plans.{opened_effects, closed}
use Rattle.instance.proofs.SameHeight.{same_self, same_closed}
use Rattle.height_row.specs.Heights.{row_at, closed_each}
use Rattle.replica_core.specs.Replays.{ReplayView, IsWithinLimits}
use Rattle.replica_core.specs.RoundEnds.{after_end}
use Rattle.replica_core.proofs.ClosedRows.{ascend_closed}

-- a height that is open then was open before
was_open : (c h : ℕ) (rows : List InstanceView) (ms : List RoundStatement) (new : InstanceView)
    → row_at (closed_each c rows ms) h ≡ Some new
    → (row : InstanceView) × (row_at rows h ≡ Some row) × IsSameHeight row new
was_open c h [] ms new found = absurd (cc found)
was_open c h (row ∷ rows) [] new found = (new, found, same_self new)
was_open c h (row ∷ rows) (m ∷ ms) new found =
    let kept = same_closed row c m in
    elim (cases_Bool (row.height == h)) [
      | inl here ↦
          let same : closed row c (opened_effects row c) m ≡ new = cc (rw (ap (λ n. n == h) kept.height ∙ here) at found) in
          (row, rw here refl, subst (IsSameHeight row) same kept)
      | inr there ↦
          let rest = was_open c h rows ms new (rw (ap (λ n. n == h) kept.height ∙ there) at found) in
          (rest.0, rw there rest.1, rest.2)
    ]

-- it stays within its limits
pub held_end : (held : ReplayView) (mute : Bool) (ms : List RoundStatement) → IsWithinLimits held → held.clock < last_round
    → IsWithinLimits (after_end held mute ms)
held_end held mute ms is_held early = record {
  member = is_held.member;
  own = λ h new found.
      let was = was_open (held.clock + 1) h held.rows ms new found in
      let own = is_held.own h was.0 was.1 in
      record { config = was.2.config ∙ own.config; id = was.2.id ∙ own.id; height = was.2.height ∙ own.height; low = own.low };
  ascend = ascend_closed (held.clock + 1) held.rows ms is_held.ascend;
  few = is_held.few;
  early = omega (arith, early);
}
