use Rattle.std.proofs.Common.{◌≡◌, ℕ, List, ◌++◌, take}
use Rattle.ledger_model.specs.Spelling.{frame_bytes}
use Rattle.printed_lines.specs.Lines.{step_text}
use Rattle.simulation.specs.Playing.{StepsEach, IsReachedByRun, injections_to}
use Rattle.simulation.proofs.simulation.Simulation.inject_each.Given as goal

-- it was injected to the receivers so far
abbrev pub invariant-loop-receiver : goal.invariant-loop-receiver
invariant-loop-receiver g l =
    ((text : List ℕ) × (StepsEach (g.A.Application.meaning) step_text l.initial.self.cluster
    (injections_to (take l.receiver-index l.receivers) (frame_bytes l.frame)) text l.self.cluster
    × (l.out ≡ l.initial.out ++ text)))
    × (l.self.lies ≡ l.initial.self.lies) × IsReachedByRun (g.A.Application.meaning) l.initial.self.cluster l.self.cluster
