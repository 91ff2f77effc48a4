-- what is put so far is the front of the frames
use Rattle.std.proofs.Common.{◌≡◌, ◌++◌, take}
use Rattle.std.specs.List.{flat_map}
use Rattle.history_bytes.specs.Histories.{sent_bytes}
use Rattle.history_bytes.proofs.replies.put_frames.Given as goal

abbrev pub invariant-loop-sent : goal.invariant-loop-sent
invariant-loop-sent l = l.out.items ≡ l.fn.out.items ++ flat_map sent_bytes (take l.sent-index l.frames)
