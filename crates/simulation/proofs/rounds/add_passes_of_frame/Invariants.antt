use Rattle.std.proofs.Common.{◌≡◌, ◌++◌, map, take}
use Rattle.ledger_model.specs.declared.world.WorldStep.TheVariants.{Pass}
use Rattle.simulation.specs.Playing.{receivers}
use Rattle.simulation.proofs.rounds.add_passes_of_frame.Given as goal

-- the passes to the receivers so far
abbrev pub invariant-loop-to : goal.invariant-loop-to
invariant-loop-to l = l.passes.items ≡ l.initial.passes.items
    ++ map (Pass l.from l.index) (receivers (take l.to-index l.correct) l.from l.addressee)
