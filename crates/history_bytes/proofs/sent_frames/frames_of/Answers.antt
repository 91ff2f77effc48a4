use Rattle.std.proofs.lemmas.Result.{err_from_is_err_and}
use Rattle.history_bytes.specs.HistoryReading.{sent_at, frames_of}
use Rattle.statements.proofs.Loops.{goes_on, ends, is_done}
use Rattle.history_bytes.proofs.Loops.{frames_reads}
use Rattle.history_bytes.proofs.sent_frames.frames_of.Goals as goal

pub returns-in_err-sent : goal.returns-in_err-sent
returns-in_err-sent c =
    let p = err_from_is_err_and c.from_residual.result c.from_residual.ensures.1 in
    rw (p.1, p.2) (ends (sent_at c.args.version) (frames_of c.args.version) (frames_reads c.args.version) c.in_err-sent.field-0.0
    c.loop.frames.items c.args.count c.loop.counter
    c.loop.input (frames_of c.args.version c.args.count c.args.input.now) c.loop-test.true c.in_err-sent.ensures c.loop.invariant)

pub loop-preserved : goal.loop-preserved
loop-preserved c =
    rw c.in_ok-push.ensures.items (goes_on (sent_at c.args.version) (frames_of c.args.version) (frames_reads c.args.version)
    c.loop.frames.items c.args.count c.loop.counter c.loop.input
    c.in_ok-sent.sent c.take_sent.new.input (frames_of c.args.version c.args.count c.args.input.now) c.loop-test.true c.in_ok-sent.ensures
    c.loop.invariant)

pub returns : goal.returns
returns c = is_done (sent_at c.args.version) (frames_of c.args.version) (frames_reads c.args.version) c.loop.frames.items c.args.count
    c.loop.counter c.loop.input
    (frames_of c.args.version c.args.count c.args.input.now) c.loop-test.false c.loop.invariant
