-- the blocks so far
use Rattle.std.proofs.Common.{◌≡◌, take}
use Rattle.history_audit.proofs.following.blocks_of.Given as goal

abbrev pub invariant-loop-index : goal.invariant-loop-index
invariant-loop-index g l = l.ledger ≡ take l.index l.follower.replay.commits
