use Rattle.std.proofs.Common.{◌≡◌, ℕ, List, ◌++◌, take}
use Rattle.ledger_model.specs.declared.world.WorldStep.{WorldStep}
use Rattle.simulation.specs.Playing.{EndsEach, IsReachedByRun}
use Rattle.simulation.proofs.simulation.Simulation.end_each.Given as goal

-- the replicas so far have ended their rounds
abbrev pub invariant-loop-replica : goal.invariant-loop-replica
invariant-loop-replica g l =
    ((text : List ℕ) × ((more : List WorldStep)
    × (EndsEach (g.A.Application.meaning) l.correct l.initial.self.cluster (take l.replica-index l.correct) text more l.self.cluster
    × (l.out ≡ l.initial.out ++ text) × (l.passes.items ≡ l.initial.passes.items ++ more))))
    × (l.self.lies ≡ l.initial.self.lies) × IsReachedByRun (g.A.Application.meaning) l.initial.self.cluster l.self.cluster
