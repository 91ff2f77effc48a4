-- what is copied so far is the front of the frames
use Rattle.std.proofs.Common.{◌≡◌, take}
use Rattle.ledger_model.proofs.reply.copy_frames.Given as goal

abbrev pub invariant-loop-sent : goal.invariant-loop-sent
invariant-loop-sent l = l.copied.items ≡ take l.sent-index l.frames
