use Rattle.std.proofs.lemmas.Result.{err_from_is_err_and}
use Rattle.history_bytes.specs.HistoryReading.{entry_at, entry_list_of}
use Rattle.statements.proofs.Loops.{goes_on, ends, is_done}
use Rattle.history_bytes.proofs.Loops.{entries_reads}
use Rattle.history_bytes.proofs.entry_reading.entries_of.Goals as goal

pub returns-in_err-entry : goal.returns-in_err-entry
returns-in_err-entry c =
    let p = err_from_is_err_and c.from_residual.result c.from_residual.ensures.1 in
    rw (p.1, p.2) (ends (entry_at c.args.version) (entry_list_of c.args.version) (entries_reads c.args.version) c.in_err-entry.field-0.0
    c.loop.entries.items c.args.count c.loop.counter
    c.loop.input (entry_list_of c.args.version c.args.count c.args.input.now) c.loop-test.true c.in_err-entry.ensures c.loop.invariant)

pub loop-preserved : goal.loop-preserved
loop-preserved c =
    rw c.in_ok-push.ensures.items (goes_on (entry_at c.args.version) (entry_list_of c.args.version) (entries_reads c.args.version)
    c.loop.entries.items c.args.count c.loop.counter c.loop.input
    c.in_ok-entry.entry c.take_entry.new.input (entry_list_of c.args.version c.args.count c.args.input.now) c.loop-test.true
    c.in_ok-entry.ensures
    c.loop.invariant)

pub returns : goal.returns
returns c = is_done (entry_at c.args.version) (entry_list_of c.args.version) (entries_reads c.args.version) c.loop.entries.items c.args.count
    c.loop.counter c.loop.input
    (entry_list_of c.args.version c.args.count c.args.input.now) c.loop-test.false c.loop.invariant
