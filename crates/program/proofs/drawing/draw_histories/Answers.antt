use Rattle.std.proofs.Common.{◌∙◌}
use Rattle.byte_streams.proofs.Faults.{on_error}
use Rattle.program.specs.Drawing.{Drawn}
use Rattle.program.proofs.HistoryOutputs.{done_nothing}
use Rattle.program.proofs.DrawingLemmas.{part_drawn}
use Rattle.program.proofs.drawing.draw_histories.Goals as goal

pub returns-in_err-picture-clause-draws : goal.returns-in_err-picture-clause-draws
returns-in_err-picture-clause-draws g c = on_error _ _ c.from_residual.ensures.0
    (done_nothing (Drawn (g.A.Application.meaning) c.args.settings.now) c.args.histories.now _)

pub returns-in_err-svg-clause-draws : goal.returns-in_err-svg-clause-draws
returns-in_err-svg-clause-draws g c = on_error _ _ c.from_residual-in_err-svg.ensures.0
    (done_nothing (Drawn (g.A.Application.meaning) c.args.settings.now) c.args.histories.now _)

pub returns-in_err-explanation-clause-draws : goal.returns-in_err-explanation-clause-draws
returns-in_err-explanation-clause-draws g c = on_error _ _ c.from_residual-in_err-explanation.ensures.0
    (done_nothing (Drawn (g.A.Application.meaning) c.args.settings.now) c.args.histories.now _)

pub returns-in_err-write_output-clause-draws : goal.returns-in_err-write_output-clause-draws
returns-in_err-write_output-clause-draws g c =
    on_error _ _ c.from_residual-in_err-write_output.ensures.0
    (part_drawn (g.A.Application.meaning) c.args.settings.now c.args.histories.now c.in_ok-picture.picture c.deref.result.now _ _
    c.in_ok-picture.ensures.shows
    (c.deref.ensures.value ∙ c.in_ok-svg.ensures) c.in_err-write_output.ensures.written)

pub returns-clause-draws : goal.returns-clause-draws
returns-clause-draws g c = (
  c.deref.result.now,
  (
    record {
      picture = c.in_ok-picture.picture;
      shows = c.in_ok-picture.ensures.shows;
      ends = c.status_of.ensures;
      prints = c.deref.ensures.value ∙ c.in_ok-svg.ensures;
    },
    c.in_ok-write_output.ensures.written,
  ),
)
