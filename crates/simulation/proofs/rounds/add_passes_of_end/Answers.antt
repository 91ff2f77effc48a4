use Rattle.std.proofs.Common.{◌<◌, length, sym, arith}
use Rattle.simulation.proofs.FirstServing.{some_within}
use Rattle.simulation.proofs.Passing.{passes_next}
use Rattle.simulation.proofs.rounds.add_passes_of_end.Goals.{in-Some+in_ok-add_passes_of_frame, in_default}
use Rattle.simulation.proofs.rounds.add_passes_of_end.Goals as goal

pub loop-place-preserved : goal.loop-place-preserved
loop-place-preserved c =
    let frames = c.args.end.now.frames in
    let i = c.loop-place.place in
    elim c.match-frame.branch [
      | in-Some+in_ok-add_passes_of_frame w ↦
          rw w.passes-is
          (passes_next c.args.correct.now c.args.from c.args.before c.in_ok-index.index frames i
          (record { addressee = w.in-Some.sent.addressee; frame = w.in-Some.sent.frame.now }) c.args.passes.now.items _ _
          (sym w.in-Some.ensures) c.in_ok-index.ensures c.loop-place.invariant w.in_ok-add_passes_of_frame.ensures)
      | in_default w ↦
          let below : i < length frames = omega (arith, c.loop-place-test.true, c.len-place-end.ensures) in
          absurd (some_within frames i below (sym w.in_default.ensures))
    ]
