-- the frames so far
use Rattle.std.proofs.Common.{◌≡◌, take}
use Rattle.replica_turns.proofs.sent.copied.Given as goal

abbrev pub invariant-loop-index : goal.invariant-loop-index
invariant-loop-index l = l.frames.items ≡ take l.index l.ended.frames
