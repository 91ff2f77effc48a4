use Rattle.std.proofs.Common.{◌+◌, ◌<◌, ◌∷◌, [], length, take, sym, ap, ◌∙◌, arith}
use Rattle.simulation.proofs.FirstServing.{frames_among, next_frame, some_within}
use Rattle.simulation.proofs.Indexing.{reports_none, reports_more}
use Rattle.simulation.proofs.report_list.add_end.Goals as goal
use Rattle.simulation.proofs.report_list.add_end.Goals.{in-Some+in_ok-add_frame, in_default}

pub loop-place-init : goal.loop-place-init
loop-place-init c = reports_none c.args.reports.now.items

pub loop-place-preserved : goal.loop-place-preserved
loop-place-preserved c =
    let sent = c.args.end.now.frames in
    let i = c.loop-place.place in
    elim c.match-frame.branch [
      | in-Some+in_ok-add_frame w ↦
          reports_more c.args.reports.now.items c.loop-place.reports.items c.match-frame.reports.items (frames_among (take i sent))
          (w.in-Some.sent.frame.now ∷ []) (frames_among (take (i + 1) sent)) c.loop-place.invariant
          (ap (λ v. v.items) w.reports-is ∙ w.in_ok-add_frame.ensures) (next_frame sent i _ (sym w.in-Some.ensures))
      | in_default w ↦
          let below : i < length sent = omega (arith, c.loop-place-test.true, c.len-place-end.ensures) in
          absurd (some_within sent i below (sym w.in_default.ensures))
    ]
