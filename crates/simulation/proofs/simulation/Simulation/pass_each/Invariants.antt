use Rattle.std.proofs.Common.{◌≡◌, ℕ, List, ◌++◌, take}
use Rattle.simulation.specs.Playing.{StepsEach, IsReachedByRun, pass_text}
use Rattle.simulation.proofs.simulation.Simulation.pass_each.Given as goal

-- the steps so far are taken
abbrev pub invariant-loop-step : goal.invariant-loop-step
invariant-loop-step g l =
    ((text : List ℕ) × (StepsEach (g.A.Application.meaning) pass_text l.initial.self.cluster
    (take l.step-index l.passes) text l.self.cluster
    × (l.out ≡ l.initial.out ++ text)))
    × (l.self.lies ≡ l.initial.self.lies) × IsReachedByRun (g.A.Application.meaning) l.initial.self.cluster l.self.cluster
