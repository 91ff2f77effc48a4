-- the frames so far
use Rattle.std.proofs.Common.{◌≡◌, map, take}
use Rattle.locked_replica.specs.StoredEntries.{sent_of}
use Rattle.locked_replica.proofs.stored_entry.frames_of.Given as goal

abbrev pub invariant-loop-sent : goal.invariant-loop-sent
invariant-loop-sent l = l.frames.items ≡ map (sent_of l.strings) (take l.sent-index l.stored)
