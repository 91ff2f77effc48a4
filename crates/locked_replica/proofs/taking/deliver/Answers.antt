use Rattle.std.proofs.Common.{ap, subst, ◌∙◌}
use Rattle.ledger_model.specs.declared.event.Event.TheVariants as event
use Rattle.ledger_model.specs.declared.reply.Reply.{Reply}
use Rattle.ledger_model.specs.declared.reply.Reply.TheVariants.{Delivered}
use Rattle.replica_core.specs.Steps.{IsStep, UsesLeaves}
use Rattle.locked_replica.proofs.Strings.{put_at, put_within}
use Rattle.locked_replica.proofs.taking.deliver.Goals as goal

pub returns-clause-taken : goal.returns-clause-taken
returns-clause-taken g c =
    let told = c.in_ok-reply.ensures in
    let there = c.in_ok-position.ensures.position in
    let at = put_at c.put.new.self c.in_ok-position.position c.args.bytes there in
    let shared = c.in_ok-shared.ensures.cases ∙ c.string.ensures ∙ at in
    record {
      event_is = ap event.Deliver at;
      step = subst (λ bytes. IsStep (g.A.Application.meaning) c.args.core.now.replay (event.Deliver bytes)
          (Delivered c.answer_in.result) c.step.new.self.replay) shared
          (subst (λ (r : Reply). IsStep (g.A.Application.meaning) c.args.core.now.replay
          (event.Deliver c.in_ok-shared.shared) r c.step.new.self.replay)
          c.answer_in.ensures
          told.step);
      leaves = subst (λ (r : Reply). UsesLeaves c.args.core.now.keys c.args.core.now.replay.clock r c.step.new.self.keys) c.answer_in.ensures
          told.leaves;
      mute = told.mute;
      within = put_within c.put.new.self c.in_ok-position.position c.args.bytes there;
      strings = c.in_ok-position.ensures.strings;
    }
