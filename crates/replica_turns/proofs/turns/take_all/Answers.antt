use Rattle.std.proofs.Common.{◌≡◌, ℕ, subst, sym, arith}
use Rattle.std.specs.Prelude.{Result, Ok, Err, IfErr, IsErrAnd}
use Rattle.std.proofs.lemmas.Grind.{common_steps}
use Rattle.std.specs.Vec.Iter.{into_iter_items}
use Rattle.ledger_model.specs.declared.fault.ApplyFault.{ApplyFault}
use Rattle.locked_replica.specs.Applying.{AppliesSome}
use Rattle.locked_replica.proofs.Applying.{applies_more}
use Rattle.replica_turns.proofs.turns.take_all.Goals as goal

pub loop-event-preserved : goal.loop-event-preserved
loop-event-preserved g c = record {
  split = grind (arith, common_steps);
  applied = applies_more (g.A.Application.meaning) c.loop-event.yielded c.args.state.now c.loop-event.state c.apply.new.self c.in-Some.event
      c.loop-event.invariant.applied c.in_ok-apply.ensures.applied;
  sound = c.in_ok-apply.ensures.sound;
}

-- what holds of the one error that is returned
of_the_error : (r : Result ℕ ApplyFault) (P : ApplyFault → Type 0) (e : ApplyFault) → IsErrAnd r (λ why. why ≡ e) → P e → IfErr r P
of_the_error (Ok n) P e is holds = absurd is
of_the_error (Err why) P e is holds = subst P (sym is) holds

pub returns-in_err-apply-clause-refused : goal.returns-in_err-apply-clause-refused
returns-in_err-apply-clause-refused g c =
    of_the_error c.from_residual.result (λ why. AppliesSome (g.A.Application.meaning) c.args.state.now c.args.events.items why
    c.apply.new.self) c.in_err-apply.field-0.0
    c.from_residual.ensures.1 (record {
      before = c.loop-event.yielded;
      refused = c.in-Some.event;
      after = into_iter_items c.next.new.self;
      split = grind (arith, common_steps);
      between = c.loop-event.state;
      applied = c.loop-event.invariant.applied;
      refuses = c.in_err-apply.ensures.refused;
    })
