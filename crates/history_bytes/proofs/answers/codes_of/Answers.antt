use Rattle.std.proofs.lemmas.Result.{err_from_is_err_and}
use Rattle.std.specs.Int.{w32}
use Rattle.ledger_model.specs.Reading.{number_at}
use Rattle.history_bytes.specs.HistoryReading.{codes_of}
use Rattle.statements.proofs.Loops.{goes_on, ends, is_done}
use Rattle.history_bytes.proofs.Loops.{codes_reads}
use Rattle.history_bytes.proofs.answers.codes_of.Goals as goal

pub returns-in_err-code : goal.returns-in_err-code
returns-in_err-code c =
    let p = err_from_is_err_and c.from_residual.result c.from_residual.ensures.1 in
    rw (p.1, p.2) (ends (number_at w32) codes_of codes_reads c.in_err-code.field-0.0 c.loop.codes.items c.args.count c.loop.counter
    c.loop.input (codes_of c.args.count c.args.input.now) c.loop-test.true c.in_err-code.ensures c.loop.invariant)

pub loop-preserved : goal.loop-preserved
loop-preserved c =
    rw c.in_ok-push.ensures.items (goes_on (number_at w32) codes_of codes_reads c.loop.codes.items c.args.count c.loop.counter c.loop.input
    c.in_ok-code.code c.take_u32.new.self (codes_of c.args.count c.args.input.now) c.loop-test.true c.in_ok-code.ensures
    c.loop.invariant)

pub returns : goal.returns
returns c = is_done (number_at w32) codes_of codes_reads c.loop.codes.items c.args.count c.loop.counter c.loop.input
    (codes_of c.args.count c.args.input.now) c.loop-test.false c.loop.invariant
