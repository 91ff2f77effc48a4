-- the lines so far were read, and gave this
use Rattle.std.proofs.Common.{length}
use Rattle.std.specs.Option.{option_map}
use Rattle.scenario_texts.specs.Plans.{plan_of}
use Rattle.scenario_texts.proofs.Endings.{Going}
use Rattle.scenario_texts.proofs.reading.read.Given as goal

abbrev pub invariant-loop-line : goal.invariant-loop-line
invariant-loop-line l = Going l.kinds l.text l.left l.number (option_map plan_of l.so_far)

abbrev pub decreases-loop-line : goal.decreases-loop-line
decreases-loop-line l = length l.left
