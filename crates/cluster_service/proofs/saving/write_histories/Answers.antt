use Rattle.std.proofs.Common.{subst, ◌∙◌, arith}
use Rattle.std.proofs.lemmas.Grind.{common_steps}
use Rattle.byte_streams.specs.Writing.{AppendsSome}
use Rattle.history_bytes.specs.Histories.{history_bytes}
use Rattle.byte_streams.proofs.EachWritten.{first_some, next_some}
use Rattle.byte_streams.proofs.Faults.{on_error}
use Rattle.cluster_service.proofs.saving.write_histories.Goals as goal

pub returns-in_err-bytes : goal.returns-in_err-bytes
returns-in_err-bytes g c =
    on_error _ _ c.from_residual.ensures.0
    (first_some history_bytes c.args.histories.now c.loop-history.history-index _ _ c.loop-history.invariant)

pub returns-in_err-write_whole : goal.returns-in_err-write_whole
returns-in_err-write_whole g c =
    on_error _ _ c.from_residual-in_err-write_whole.ensures.0
    (next_some history_bytes c.args.histories.now c.loop-history.history-index _ _ c.loop-history.invariant _ c.history-item.result
    c.loop-history-test.true c.history-item.is
    (subst (AppendsSome _ _) (c.deref.ensures.value ∙ c.in_ok-bytes.ensures) c.in_err-write_whole.ensures))

pub loop-history-preserved : goal.loop-history-preserved
loop-history-preserved g c = grind (arith, common_steps)

pub returns : goal.returns
returns g c = grind (arith, common_steps)
