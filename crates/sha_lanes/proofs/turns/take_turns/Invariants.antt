-- the words are those of the messages after this number of turns; then the messages so far are these
use Rattle.std.proofs.Common.{◌≡◌, ℕ, ◌*◌, ◌<◌, ◌≤◌, [], length, slice_index_or}
use Rattle.sha2.specs.Sha256.{padded_message, word_at}
use Rattle.sha_lanes.specs.Lanes.{lane_at}
use Rattle.sha_lanes.specs.Turns.{after_turns}
use Rattle.sha_lanes.proofs.turns.take_turns.Given as goal

abbrev pub invariant-loop-turn : goal.invariant-loop-turn
invariant-loop-turn l = record {
  words : (j k : ℕ) → j < 8 → k < 16
      → lane_at l.words k j ≡ word_at (padded_message (after_turns l.turn (slice_index_or l.messages j []))) (4 * k);
  front : (j k : ℕ) → j < 8 → k < 5 → lane_at l.words k j ≡ word_at (padded_message (slice_index_or l.messages j [])) (4 * k);
}

abbrev pub invariant-loop-lane : goal.invariant-loop-lane
invariant-loop-lane l = record {
  many : length l.messages ≡ 8;
  done : (j : ℕ) → j < l.lane → slice_index_or l.messages j [] ≡ after_turns l.fn.count (slice_index_or l.fn.messages j []);
  waits : (j : ℕ) → l.lane ≤ j → slice_index_or l.messages j [] ≡ slice_index_or l.fn.messages j [];
}
