-- the messages of the chains so far
use Rattle.std.proofs.Common.{◌≡◌, ℕ, ◌<◌, [], length, slice_index, slice_index_or}
use Rattle.lm_ots.specs.Ends.{message_of}
use Rattle.lm_ots.proofs.leaf_chains.Chains.messages.Given as goal

abbrev pub invariant-loop-lane : goal.invariant-loop-lane
invariant-loop-lane l = record {
  many : length l.messages ≡ 8;
  messages : (k : ℕ) → k < l.lane → slice_index_or l.messages k [] ≡ message_of l.self (slice_index l.picks k);
  named : 0 < l.lane → length l.self.identifier ≡ 16;
}
