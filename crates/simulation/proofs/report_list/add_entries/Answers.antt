use Rattle.std.proofs.Common.{◌+◌, ◌<◌, length, take, arith}
use Rattle.std.specs.Prelude.{slice_get}
use Rattle.ledger_model.specs.Worlds.{frames_sent}
use Rattle.simulation.specs.Lies.{frames_with}
use Rattle.simulation.proofs.FirstServing.{next_sent}
use Rattle.simulation.proofs.Indexing.{reports_next}
use Rattle.simulation.proofs.report_list.add_entries.Goals as goal

pub loop-index-preserved : goal.loop-index-preserved
loop-index-preserved g c =
    let entries = c.args.state.now.entries in
    let i = c.loop-index.index in
    let below : i < length entries = omega (arith, c.loop-index-test.true, c.len-index-end.ensures.len) in
    reports_next c.loop-index.reports.items _ (frames_sent (take i entries)) (frames_with (slice_get entries i))
    (frames_sent (take (i + 1) entries))
    c.loop-index.invariant c.in_ok-add_entry.ensures (next_sent entries i below)
