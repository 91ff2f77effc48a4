use Rattle.std.proofs.Common.{◌≡◌, ◌≤◌, ◌+◌, ◌*◌, ◌∷◌, ◌++◌, length, take}
use Rattle.std.specs.List.{flat_map}
use Rattle.client_sessions.proofs.reply_buffer.ReplyBuffer.put_txs.Given as goal

abbrev pub invariant-loop-tx : goal.invariant-loop-tx
invariant-loop-tx l = record {
  bytes : l.self ≡ l.fn.self ++ flat_map (λ tx. length tx ∷ tx) (take l.tx-index l.txs);
  within : length l.self ≤ length l.fn.self + 65 * l.tx-index;
}
