-- the messages of the leaves so far
use Rattle.std.proofs.Common.{◌≡◌, ℕ, ◌+◌, ◌<◌, [], ◌∷◌, ◌++◌, length, slice_index_or}
use Rattle.std.specs.Int.{w16, w32, to_be_bytes}
use Rattle.lm_ots.proofs.leaf_row.seed_messages.Given as goal

abbrev pub invariant-loop-lane : goal.invariant-loop-lane
invariant-loop-lane l = record {
  many : length l.messages ≡ 8;
  messages : (k : ℕ) → k < l.lane
      → slice_index_or l.messages k [] ≡ l.identifier ++ to_be_bytes w32 (l.first + k) ++ to_be_bytes w16 l.index ++ (255 ∷ []) ++ l.seed;
  named : 0 < l.lane → length l.identifier ≡ 16;
}
