use Rattle.std.proofs.Common.{subst, ◌∙◌, arith}
use Rattle.std.proofs.lemmas.Grind.{common_steps}
use Rattle.byte_streams.specs.Writing.{AppendsSome}
use Rattle.history_bytes.specs.Histories.{history_bytes}
use Rattle.byte_streams.proofs.Faults.{on_error}
use Rattle.byte_streams.proofs.EachWritten.{first_some, next_some}
use Rattle.program.proofs.playing.write_histories.Goals as goal

pub returns-in_err-bytes-clause-written : goal.returns-in_err-bytes-clause-written
returns-in_err-bytes-clause-written g c =
    on_error _ _ c.from_residual.ensures.0
    (first_some history_bytes c.args.histories.now c.loop-history.history-index _ _ c.loop-history.invariant)

pub returns-in_err-write_output-clause-written : goal.returns-in_err-write_output-clause-written
returns-in_err-write_output-clause-written g c =
    on_error _ _ c.from_residual-in_err-write_output.ensures.0
    (next_some history_bytes c.args.histories.now c.loop-history.history-index _ _ c.loop-history.invariant _ c.history-item.result
    c.loop-history-test.true c.history-item.is
    (subst (AppendsSome _ _) (c.deref.ensures.value ∙ c.in_ok-bytes.ensures) c.in_err-write_output.ensures.written))

pub loop-history-preserved : goal.loop-history-preserved
loop-history-preserved g c = grind (arith, common_steps)

pub returns-clause-written : goal.returns-clause-written
returns-clause-written g c = grind (arith, common_steps)
