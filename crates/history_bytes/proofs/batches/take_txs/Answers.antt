use Rattle.std.proofs.Common.{arith}
use Rattle.std.proofs.lemmas.Result.{err_from_is_err_and}
use Rattle.ledger_model.specs.Reading.{tx_at, txs_at}
use Rattle.statements.proofs.Loops.{goes_on, ends, is_done, txs_reads}
use Rattle.history_bytes.proofs.batches.take_txs.Goals as goal

pub returns-in_err-tx-clause-read : goal.returns-in_err-tx-clause-read
returns-in_err-tx-clause-read c =
    let p = err_from_is_err_and c.from_residual.result c.from_residual.ensures.1 in
    rw (p.1, p.2) (ends tx_at txs_at txs_reads c.in_err-tx.field-0.0 c.loop.txs.items c.args.count c.loop.counter c.loop.input
    (txs_at c.args.count c.args.input.now) c.loop-test.true c.in_err-tx.ensures c.loop.invariant.read)

pub loop-preserved : goal.loop-preserved
loop-preserved c = record {
  read = rw c.in_ok-push.ensures.items
      (goes_on tx_at txs_at txs_reads c.loop.txs.items c.args.count c.loop.counter c.loop.input c.in_ok-tx.tx c.take_tx.new.input
      (txs_at c.args.count c.args.input.now) c.loop-test.true c.in_ok-tx.ensures c.loop.invariant.read);
  all = omega (arith, c.in_ok-push.ensures.len, c.loop.invariant.all);
}

pub returns-clause-read : goal.returns-clause-read
returns-clause-read c = is_done tx_at txs_at txs_reads c.loop.txs.items c.args.count c.loop.counter c.loop.input
    (txs_at c.args.count c.args.input.now) c.loop-test.false c.loop.invariant.read
