-- the first commands were played
use Rattle.std.proofs.Common.{take}
use Rattle.program.specs.Simulating.{PlaysWritten}
use Rattle.program.proofs.playing.play_all.Given as goal

abbrev pub invariant-loop-command : goal.invariant-loop-command
invariant-loop-command g l =
    PlaysWritten (g.A.Application.meaning) l.has_lines l.initial.simulation (take l.command-index l.commands) l.simulation
    (g.W.Write.contents l.initial.writer)
    (g.W.Write.contents l.writer)
