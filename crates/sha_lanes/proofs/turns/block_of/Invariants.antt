-- the bytes of the words so far are those of the block that has them
use Rattle.std.proofs.Common.{◌≡◌, ℕ, ◌*◌, ◌<◌, List, length, take}
use Rattle.sha2.specs.Sha256.{word_at}
use Rattle.sha_lanes.specs.Lanes.{lane_at}
use Rattle.sha_lanes.specs.Turns.{AreBytes}
use Rattle.sha_lanes.proofs.turns.block_of.Given as goal

abbrev pub invariant-loop-k : goal.invariant-loop-k
invariant-loop-k l = record {
  whole : length l.block ≡ 64;
  front : (b : List ℕ) → length b ≡ 64 → AreBytes b → ((k : ℕ) → k < 16 → lane_at l.words k l.j ≡ word_at b (4 * k))
      → take (4 * l.k) l.block ≡ take (4 * l.k) b;
}
