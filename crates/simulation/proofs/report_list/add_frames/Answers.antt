use Rattle.std.proofs.Common.{◌+◌, ◌<◌, ◌∷◌, [], length, take, refl, arith}
use Rattle.std.proofs.lemmas.Option.{slice_get_read}
use Rattle.ledger_model.proofs.Lists.{take-next}
use Rattle.simulation.proofs.Indexing.{reports_next}
use Rattle.simulation.proofs.report_list.add_frames.Goals as goal

pub loop-index-preserved : goal.loop-index-preserved
loop-index-preserved c =
    let frames = c.args.frames.now in
    let i = c.loop-index.index in
    let item = c.index-frames-index.result in
    let below : i < length frames = omega arith in
    reports_next c.loop-index.reports.items _ (take i frames) (item ∷ []) (take (i + 1) frames)
    c.loop-index.invariant c.in_ok-add_frame.ensures
    (take-next frames i item (slice_get_read frames _ i item refl below c.index-frames-index.is))
