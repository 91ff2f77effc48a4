use Rattle.std.proofs.Common.{◌≡◌, ◌-◌, vec_len}
use Rattle.ledger_model.specs.Reading.{txs_at}
use Rattle.statements.proofs.Loops.{with_front}
use Rattle.history_bytes.proofs.batches.take_txs.Given as goal

abbrev pub invariant-loop : goal.invariant-loop
invariant-loop l = record {
  read : with_front l.txs.items (txs_at (l.count - l.counter) l.input) ≡ txs_at l.count l.fn.input;
  all : vec_len l.txs ≡ l.counter;
}
