use Rattle.std.proofs.Common.{◌≡◌, ◌≤◌, length, take}
use Rattle.std.specs.Prelude.{vec_len}
use Rattle.std.specs.Vec.{vec_capacity}
use Rattle.ledger_model.specs.Worlds.{Runs}
use Rattle.adversary_net.specs.WorldViews.{IsCluster, IsSameCluster, UsesAsAnswered, world_of}
use Rattle.adversary_net.specs.Leaves.{AreAnswered}
use Rattle.adversary_net.proofs.world.World.run_each.Given as goal

-- the steps so far are a run, each has its answer, and there is room for the rest
abbrev pub invariant-loop-step : goal.invariant-loop-step
invariant-loop-step g l = record {
  runs : Runs (g.A.Application.meaning) l.initial.self.config l.initial.self.ring (world_of l.initial.self)
      (take l.step-index l.steps) l.answers.items
      (world_of l.self);
  same : IsSameCluster l.initial.self l.self;
  cluster : IsCluster (g.A.Application.meaning) l.self;
  leaves : UsesAsAnswered l.initial.self l.answers.items l.self;
  each : AreAnswered (g.A.Application.meaning) l.initial.self (take l.step-index l.steps) l.answers.items l.self;
  count : vec_len l.answers ≡ l.step-index;
  room : length l.steps ≤ vec_capacity l.answers;
}
