use Rattle.std.proofs.Common.{◌≡◌, ◌≤◌, length, rules}
use Rattle.std.proofs.lemmas.Result.{err_from_is_err_and}
use Rattle.history_bytes.specs.HistoryReading.{histories_reading}
use Rattle.history_bytes.proofs.FileReaders.{less_left, history_goes_on, history_ends, histories_are_done}
use Rattle.history_bytes.proofs.histories.take_histories.Goals as goal

pub returns-in_err-history : goal.returns-in_err-history
returns-in_err-history c =
    let p = err_from_is_err_and c.from_residual.result c.from_residual.ensures.1 in
    let some : 1 ≤ length c.loop-version.input = search rules in
    rw (p.1, p.2) (history_ends c.args.version c.in_err-history.field-0.0 c.loop-version.histories.items c.loop-version.input
    (histories_reading c.args.version c.args.input.now) c.is_empty.ensures.bytes some c.in_err-history.ensures c.loop-version.invariant)

pub loop-version-smaller : goal.loop-version-smaller
loop-version-smaller c =
    (less_left c.args.version c.loop-version.input c.in_ok-history.history c.take_history.new.input c.is_empty.ensures.bytes
    c.in_ok-history.ensures).0

pub loop-version-preserved : goal.loop-version-preserved
loop-version-preserved c =
    let some : 1 ≤ length c.loop-version.input = search rules in
    rw c.in_ok-push.ensures.items (history_goes_on c.args.version c.loop-version.histories.items c.loop-version.input
    c.in_ok-history.history
    c.take_history.new.input (histories_reading c.args.version c.args.input.now) c.is_empty.ensures.bytes some c.in_ok-history.ensures
    c.loop-version.invariant)

pub returns : goal.returns
returns c =
    let none : length c.loop-version.input ≡ 0 = search rules in
    histories_are_done c.args.version c.loop-version.histories.items c.loop-version.input
    (histories_reading c.args.version c.args.input.now) none c.loop-version.invariant
