use Rattle.std.proofs.lemmas.Result.{err_from_is_err_and}
use Rattle.ledger_model.specs.Reading.{value_at, values_at}
use Rattle.statements.proofs.Loops.{goes_on, ends, is_done, values_reads}
use Rattle.statements.proofs.values.take_batches.Goals as goal

pub returns-in_err-batch : goal.returns-in_err-batch
returns-in_err-batch c =
    let p = err_from_is_err_and c.from_residual-in_err-batch.result c.from_residual-in_err-batch.ensures.1 in
    rw (p.1, p.2) (ends (value_at c.args.version) (values_at c.args.version) (values_reads c.args.version) c.in_err-batch.field-0.0
    c.loop.batches.items c.args.count c.loop.counter
    c.loop.cursor (values_at c.args.version c.args.count c.args.cursor.now) c.loop-test.true c.in_err-batch.ensures c.loop.invariant)

pub loop-preserved : goal.loop-preserved
loop-preserved c =
    rw c.in_ok-push.ensures.items (goes_on (value_at c.args.version) (values_at c.args.version) (values_reads c.args.version)
    c.loop.batches.items c.args.count c.loop.counter c.loop.cursor
    c.in_ok-batch.batch c.take_batch.new.cursor (values_at c.args.version c.args.count c.args.cursor.now) c.loop-test.true
    c.in_ok-batch.ensures
    c.loop.invariant)

pub returns : goal.returns
returns c = is_done (value_at c.args.version) (values_at c.args.version) (values_reads c.args.version) c.loop.batches.items c.args.count
    c.loop.counter c.loop.cursor
    (values_at c.args.version c.args.count c.args.cursor.now) c.loop-test.false c.loop.invariant
