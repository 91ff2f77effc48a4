use Rattle.std.proofs.Common.{◌∙◌, ap, sym, Vec, Global}
use Rattle.std.specs.Prelude.{Some, option_map}
use Rattle.ledger_model.specs.declared.history.History.{History}
use Rattle.cluster_setup.specs.KnownClusters.{known_config}
use Rattle.history_bytes.specs.HistoryReading.{histories_reading}
use Rattle.byte_streams.proofs.Faults.{on_error}
use Rattle.program.specs.Drawing.{Drawn}
use Rattle.program.proofs.HistoryOutputs.{outputs_nothing, outputs_histories, outputs_none}
use Rattle.program.proofs.drawing.draw.Goals as goal

pub returns-in_err-histories-clause-draws : goal.returns-in_err-histories-clause-draws
returns-in_err-histories-clause-draws g c =
    let s = c.args.settings.now in
    on_error _ _ c.from_residual.ensures.0 (outputs_nothing (known_config s.cluster).frames
    (Drawn (g.A.Application.meaning) s) c.in_err-histories.ensures.read.0 _ _ _
    c.in_err-histories.ensures.read.1)

pub returns-in-Some-clause-draws : goal.returns-in-Some-clause-draws
returns-in-Some-clause-draws g c =
    let s = c.args.settings.now in
    let (input, (whole, reads)) = c.in_ok-histories.ensures.read in
    outputs_histories (known_config s.cluster).frames (Drawn (g.A.Application.meaning) s) input _ _ c.draw_histories.result c.deref.result.now _ _
    whole
    (ap (λ config. histories_reading config.frames input) (sym c.config.ensures) ∙ reads ∙ ap (option_map (λ (h : Vec History Global). h.items)) c.in-Some.is ∙ ap Some (sym c.deref.ensures.value)) c.draw_histories.ensures.draws

pub returns-in-None-clause-draws : goal.returns-in-None-clause-draws
returns-in-None-clause-draws g c =
    let s = c.args.settings.now in
    let (input, (whole, none)) = c.in_ok-histories.ensures.read in
    outputs_none (known_config s.cluster).frames (Drawn (g.A.Application.meaning) s) input _ _ c.print_bad_history.result _ _ whole
    (ap (λ config. histories_reading config.frames input) (sym c.config.ensures) ∙ none ∙ ap (option_map (λ (h : Vec History Global). h.items)) c.in-None.is)
    c.print_bad_history.ensures.written c.print_bad_history.ensures.ending
