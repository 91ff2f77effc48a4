use Rattle.std.proofs.Common.{◌≡◌, ◌++◌, take}
use Rattle.simulation.specs.Playing.{passes_from}
use Rattle.simulation.proofs.rounds.add_passes_of_end.Given as goal

-- the passes of the frames so far
abbrev pub invariant-loop-place : goal.invariant-loop-place
invariant-loop-place l = l.passes.items ≡ l.initial.passes.items ++ passes_from l.correct l.from l.before (take l.place l.end.frames)
