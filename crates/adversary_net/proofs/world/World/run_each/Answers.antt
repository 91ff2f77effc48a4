use Rattle.std.proofs.Common.{[], take, sym, subst, rules, arith}
use Rattle.std.proofs.lemmas.List.{take_all}
use Rattle.ledger_model.specs.Worlds.{Runs}
use Rattle.adversary_net.specs.WorldViews.{world_of}
use Rattle.adversary_net.specs.Leaves.{AreAnswered}
use Rattle.adversary_net.specs.Steps.{Went}
use Rattle.adversary_net.proofs.Members.{take_next}
use Rattle.adversary_net.proofs.UsedLeaves.{uses_none, uses_more, answered_none, answered_more}
use Rattle.adversary_net.proofs.Running.{run_more, no_steps, same_still, same_as}
use Rattle.adversary_net.proofs.world.World.run_each.Goals as goal

pub loop-step-init : goal.loop-step-init
loop-step-init g c = record {
  runs = subst (λ answers. Runs (g.A.Application.meaning) c.args.self.now.config c.args.self.now.ring (world_of c.args.self.now) [] answers
      (world_of c.args.self.now)) (sym c.requires.none) (no_steps (g.A.Application.meaning) c.args.self.now);
  same = same_as c.args.self.now;
  cluster = c.requires.cluster;
  leaves = uses_none c.args.self.now c.args.answers.now.items;
  each = subst (λ answers. AreAnswered (g.A.Application.meaning) c.args.self.now [] answers c.args.self.now) (sym c.requires.none)
      (answered_none (g.A.Application.meaning) c.args.self.now);
  count = search rules;
  room = omega (arith, c.requires.room);
}

pub loop-step-preserved : goal.loop-step-preserved
loop-step-preserved g c =
    let was = c.loop-step.invariant in
    let next = take_next c.args.steps.now c.loop-step.step-index c.step-item.result c.loop-step-test.true c.step-item.is in
    let went : Went (g.A.Application.meaning) c.loop-step.self c.step-outcome.new.self c.step-item.result c.reply_of-answer.result =
    subst (λ a. Went (g.A.Application.meaning) c.loop-step.self c.step-outcome.new.self c.step-item.result a)
    (sym c.reply_of-answer.ensures) c.step-outcome.ensures
    in
    let runs = run_more (g.A.Application.meaning) c.args.self.now c.loop-step.self c.step-outcome.new.self
    (take c.loop-step.step-index c.args.steps.now)
    c.loop-step.answers.items c.step-item.result c.reply_of-answer.result was.runs was.same went in
    record {
      runs = rw (next, c.in-Ok.ensures.items) runs;
      same = same_still c.args.self.now c.loop-step.self was.same c.step-outcome.new.self went.answered.same;
      cluster = went.cluster;
      leaves = rw c.in-Ok.ensures.items
          (uses_more c.args.self.now c.loop-step.self c.step-outcome.new.self c.loop-step.answers.items c.step-item.result
          c.reply_of-answer.result was.leaves went.answered.leaves);
      each = rw (next, c.in-Ok.ensures.items)
          (answered_more (g.A.Application.meaning) c.args.self.now c.loop-step.self c.step-outcome.new.self
          (take c.loop-step.step-index c.args.steps.now)
          c.loop-step.answers.items c.step-item.result c.reply_of-answer.result was.each went.answered);
      count = omega (arith, was.count, c.in-Ok.ensures.len);
      room = omega (arith, was.room, c.in-Ok.ensures.capacity);
    }

pub unreachable-requires : goal.unreachable-requires
unreachable-requires g c = omega
    (arith, c.in-Err.ensures.full, c.loop-step.invariant.count, c.loop-step.invariant.room, c.loop-step-test.true)

pub returns-clause-runs : goal.returns-clause-runs
returns-clause-runs g c =
    subst (λ steps. Runs (g.A.Application.meaning) c.args.self.now.config c.args.self.now.ring
    (world_of c.args.self.now) steps c.loop-step.answers.items
    (world_of c.loop-step.self))
    (take_all c.loop-step.step-index c.args.steps.now c.loop-step-test.false) c.loop-step.invariant.runs

pub returns-clause-each : goal.returns-clause-each
returns-clause-each g c =
    subst (λ steps. AreAnswered (g.A.Application.meaning) c.args.self.now steps c.loop-step.answers.items c.loop-step.self)
    (take_all c.loop-step.step-index c.args.steps.now c.loop-step-test.false) c.loop-step.invariant.each
