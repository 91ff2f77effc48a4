use Rattle.byte_streams.proofs.Faults.{on_error, passed}
use Rattle.program.specs.Streams.{StopsDelivery}
use Rattle.program.proofs.CauseLemmas.{stops_delivery_anyway}
use Rattle.program.proofs.DeliveringLemmas.{halted_at_first}
use Rattle.program.proofs.delivering.deliver.Goals as goal

pub returns-in_err-state-clause-delivers : goal.returns-in_err-state-clause-delivers
returns-in_err-state-clause-delivers g c = on_error _ _ c.from_residual.ensures.0
    (halted_at_first (g.A.Application.meaning) c.args.settings.now _ _)

pub returns-in_err-state-clause-cause : goal.returns-in_err-state-clause-cause
returns-in_err-state-clause-cause g c =
    passed _ c.in_err-state.field-0.0 (StopsDelivery (g.A.Application.meaning) c.args.settings.now _ _ _ _) c.from_residual.ensures.1
    (stops_delivery_anyway (g.A.Application.meaning) c.args.settings.now _ _ _ _ _ c.in_err-state.ensures.fault)
