-- those of the frames so far that are early
use Rattle.std.proofs.Common.{◌≡◌, filter, take}
use Rattle.ledger_model.specs.Reading.{reading_in}
use Rattle.replica_turns.specs.Rounds.{is_early}
use Rattle.replica_turns.proofs.early.early_of.Given as goal

abbrev pub invariant-loop-frame : goal.invariant-loop-frame
invariant-loop-frame l = l.early.items ≡ filter (λ bytes. is_early l.clock (reading_in l.version bytes)) (take l.frame-index l.frames)
