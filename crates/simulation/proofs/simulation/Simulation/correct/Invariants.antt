use Rattle.std.proofs.Common.{◌≡◌}
use Rattle.std.specs.Prelude.{filter}
use Rattle.std.specs.List.{range_with_len}
use Rattle.ledger_model.specs.Groups.{is_correct}
use Rattle.adversary_net.specs.WorldViews.{world_of}
use Rattle.simulation.proofs.simulation.Simulation.correct.Given as goal

-- the correct replicas so far
abbrev pub invariant-loop-number : goal.invariant-loop-number
invariant-loop-number g l = l.correct.items ≡ filter (λ r. is_correct (world_of l.self.cluster).histories r) (range_with_len 0 l.number)
