use Rattle.std.proofs.Common.{[], ap, sym, subst, ◌∙◌}
use Rattle.signed_frames.specs.Reader.{FrameReaderView}
use Rattle.locked_replica.specs.States.{StateView}
use Rattle.program.specs.Answering.{AnswersEvents, starting}
use Rattle.byte_streams.proofs.Faults.{on_error, passed}
use Rattle.program.specs.Streams.{StopsDelivery}
use Rattle.program.proofs.CauseLemmas.{stops_delivery, stops_delivery_anyway}
use Rattle.program.proofs.DeliveringLemmas.{done_to_end, filled_before, filled_within, halted_at_end, halted_before, halted_within}
use Rattle.program.proofs.delivering.deliver_to.Goals as goal

pub deliver_pieces-requires-clause-start : goal.deliver_pieces-requires-clause-start
deliver_pieces-requires-clause-start g c = ap (λ (r : FrameReaderView). r.state) c.new_in-frames.ensures

pub deliver_pieces-requires-clause-version : goal.deliver_pieces-requires-clause-version
deliver_pieces-requires-clause-version g c =
    let first = subst (λ r. AnswersEvents (g.A.Application.meaning) r (starting c.args.settings.now) [] c.start.new.state) c.requires
    c.in_ok-start.ensures.answers in
    ap (λ (r : FrameReaderView). r.version) c.new_in-frames.ensures ∙ sym (ap (λ (r : StateView). r.config.frames) first.grown.same)

pub returns-in_err-start-clause-delivers : goal.returns-in_err-start-clause-delivers
returns-in_err-start-clause-delivers g c =
    on_error _ _ c.from_residual.ensures.0 (halted_before (g.A.Application.meaning) c.args.settings.now _ _ _ _ c.requires
    c.in_err-start.ensures.answers)

pub returns-in_err-end-clause-delivers : goal.returns-in_err-end-clause-delivers
returns-in_err-end-clause-delivers g c =
    on_error _ _ c.from_residual-in_err-end.ensures.0
    (halted_within (g.A.Application.meaning) c.args.settings.now _ _ _ _ _ _ _ c.requires c.in_ok-start.ensures.answers
    c.in_err-end.ensures.ends)

pub returns-in_err-print_end-clause-delivers : goal.returns-in_err-print_end-clause-delivers
returns-in_err-print_end-clause-delivers g c =
    on_error _ _ c.from_residual-in_err-print_end.ensures.0
    (halted_at_end (g.A.Application.meaning) c.args.settings.now _ _ _ _ _ _ _ _ c.in_ok-end.end c.requires c.in_ok-start.ensures.answers
    c.in_ok-end.ensures.ends
    c.in_err-print_end.ensures.written)

pub returns-clause-delivers : goal.returns-clause-delivers
returns-clause-delivers g c =
    done_to_end (g.A.Application.meaning) c.args.settings.now _ _ _ _ _ _ _ _ c.in_ok-end.end c.requires c.in_ok-start.ensures.answers
    c.in_ok-end.ensures.ends
    c.in_ok-print_end.ensures.written

pub returns-in_err-start-clause-cause : goal.returns-in_err-start-clause-cause
returns-in_err-start-clause-cause g c =
    passed _ c.in_err-start.field-0.0 (StopsDelivery (g.A.Application.meaning) c.args.settings.now _ _ _ _) c.from_residual.ensures.1
    (stops_delivery (g.A.Application.meaning) c.args.settings.now _ _ _ _ _ _
    (filled_before (g.A.Application.meaning) c.args.settings.now _ _ _ _ c.requires c.in_err-start.ensures.answers)
    c.in_err-start.ensures.cause)

pub returns-in_err-end-clause-cause : goal.returns-in_err-end-clause-cause
returns-in_err-end-clause-cause g c =
    passed _ c.in_err-end.field-0.0 (StopsDelivery (g.A.Application.meaning) c.args.settings.now _ _ _ _)
    c.from_residual-in_err-end.ensures.1
    (stops_delivery (g.A.Application.meaning) c.args.settings.now _ _ _ _ _ _
    (filled_within (g.A.Application.meaning) c.args.settings.now _ _ _ _ _ _ _ c.requires c.in_ok-start.ensures.answers
    c.in_err-end.ensures.ends)
    c.in_err-end.ensures.cause)

pub returns-in_err-print_end-clause-cause : goal.returns-in_err-print_end-clause-cause
returns-in_err-print_end-clause-cause g c =
    passed _ c.in_err-print_end.field-0.0 (StopsDelivery (g.A.Application.meaning) c.args.settings.now _ _ _ _)
    c.from_residual-in_err-print_end.ensures.1
    (stops_delivery_anyway (g.A.Application.meaning) c.args.settings.now _ _ _ _ _ c.in_err-print_end.ensures.fault)
