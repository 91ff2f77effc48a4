-- the incoming frames among those so far
use Rattle.run_picture.specs.Incoming.{AreIncomingTo}
use Rattle.run_picture.proofs.incoming.frames_to.Given as goal

abbrev pub invariant-loop-index : goal.invariant-loop-index
invariant-loop-index l = AreIncomingTo l.sent l.numbers.numbers.items l.to l.index l.frames.items
