-- A replica that refuses an event is as it was, except that it may have used leaves.
use Rattle.std.proofs.Common.{◌≡◌, ◌+◌, ◌≤◌, inl, inr, false, ap, arith}
use Rattle.std.proofs.lemmas.Bool.{cases_Bool}
use Rattle.ledger_model.specs.declared.event.Event.{Event}
use Rattle.locked_replica.specs.Applying.{RefusesEvent}
use Rattle.ledger_model.specs.declared.fault.ApplyFault.{ApplyFault}
use Rattle.locked_replica.specs.States.{StateView, due_next, may_lose, signs_at}
use Rattle.adversary_net.specs.Steps.{Stays}

-- where it signs nothing it loses no leaf, and elsewhere no more than it was to sign
within_loss : (old new : StateView) (e : Event) → (signs_at old e ≡ false → new ≡ old) → new.used ≤ old.used + due_next old
    → new.used ≤ old.used + may_lose old e
within_loss old new e spared within = elim (cases_Bool (signs_at old e)) [
  | inl signs ↦ rw signs within
  | inr silent ↦ rw silent (let used : new.used ≡ old.used = ap (λ (s : StateView). s.used) (spared silent) in omega (arith, used))
]

-- and none that was used is unused
pub stays : (old new : StateView) (e : Event) (why : ApplyFault) → RefusesEvent old e why new → Stays old e new
stays old new e why refuses = record {
  same = refuses.rest;
  least = refuses.least;
  most = within_loss old new e refuses.spared refuses.most;
}
