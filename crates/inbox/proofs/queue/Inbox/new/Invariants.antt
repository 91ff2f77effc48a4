use Rattle.std.proofs.Common.{◌≡◌, ℕ, ◌<◌, ◌≤◌, Some}
use Rattle.std.specs.Prelude.{slice_get, vec_len, vec_capacity}
use Rattle.inbox.specs.Passes.{new_putter, new_taker}
use Rattle.inbox.proofs.queue.Inbox.new.Given as goal

abbrev pub invariant-loop-number : goal.invariant-loop-number
invariant-loop-number l = record {
  taker : l.taking ≡ new_taker l.inbox l.number;
  count : vec_len l.putting ≡ l.number;
  room : l.putters ≤ vec_capacity l.putting;
  dealt : (k : ℕ) → k < l.number → slice_get l.putting.items k ≡ Some (new_putter l.inbox k);
}
