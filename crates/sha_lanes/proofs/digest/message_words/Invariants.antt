-- the words so far are those of the padded messages
use Rattle.std.proofs.Common.{◌≡◌, ℕ, ◌*◌, ◌<◌, [], length, slice_index_or}
use Rattle.sha2.specs.Sha256.{padded_message, word_at}
use Rattle.sha_lanes.specs.Lanes.{lane_at}
use Rattle.sha_lanes.proofs.digest.message_words.Given as goal

abbrev pub invariant-loop-k : goal.invariant-loop-k
invariant-loop-k l = record {
  whole : length l.words ≡ 16;
  read : (j k : ℕ) → j < 8 → k < l.k → lane_at l.words k j ≡ word_at (padded_message (slice_index_or l.messages j [])) (4 * k);
}
