use Rattle.std.proofs.Common.{◌-◌}
use Rattle.round_pacer.proofs.Rising.{IsBetween}
use Rattle.round_pacer.proofs.due.Given as goal

abbrev pub invariant-loop-low : goal.invariant-loop-low
invariant-loop-low l = IsBetween l.fn.start l.fn.now l.fn.base_ms l.fn.ended l.low l.high

abbrev pub decreases-loop-low : goal.decreases-loop-low
decreases-loop-low l = l.high - l.low
