use Rattle.std.proofs.lemmas.Result.{err_from_is_err_and}
use Rattle.ledger_model.specs.Reading.{signed_at, proof_at}
use Rattle.statements.proofs.Loops.{goes_on, ends, is_done, proof_reads}
use Rattle.statements.proofs.locks.take_reports.Goals as goal

pub returns-in_err-signed : goal.returns-in_err-signed
returns-in_err-signed c =
    let p = err_from_is_err_and c.from_residual-in_err-signed.result c.from_residual-in_err-signed.ensures.1 in
    rw (p.1, p.2) (ends (signed_at c.args.version) (proof_at c.args.version) (proof_reads c.args.version) c.in_err-signed.field-0.0
    c.loop.reports.items c.args.count c.loop.counter
    c.loop.cursor (proof_at c.args.version c.args.count c.args.cursor.now) c.loop-test.true c.in_err-signed.ensures c.loop.invariant)

pub loop-preserved : goal.loop-preserved
loop-preserved c =
    rw c.in_ok-push.ensures.items (goes_on (signed_at c.args.version) (proof_at c.args.version) (proof_reads c.args.version)
    c.loop.reports.items c.args.count c.loop.counter c.loop.cursor
    c.in_ok-signed.signed c.take_signed.new.cursor (proof_at c.args.version c.args.count c.args.cursor.now) c.loop-test.true
    c.in_ok-signed.ensures
    c.loop.invariant)

pub returns : goal.returns
returns c = is_done (signed_at c.args.version) (proof_at c.args.version) (proof_reads c.args.version) c.loop.reports.items c.args.count
    c.loop.counter c.loop.cursor
    (proof_at c.args.version c.args.count c.args.cursor.now) c.loop-test.false c.loop.invariant
