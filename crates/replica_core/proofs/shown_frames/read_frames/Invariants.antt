-- those so far are read
use Rattle.std.proofs.Common.{◌≡◌, take}
use Rattle.std.specs.List.{AllByRecursion}
use Rattle.ledger_model.specs.Spelling.{IsFrame}
use Rattle.replica_core.specs.ShownEnds.{statements_shown}
use Rattle.replica_core.proofs.shown_frames.read_frames.Given as goal

abbrev pub invariant-loop-sent : goal.invariant-loop-sent
invariant-loop-sent l = (statements_shown (take l.sent-index l.sent) ≡ l.frames.items) × AllByRecursion IsFrame l.frames.items
