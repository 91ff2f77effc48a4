use Rattle.byte_streams.proofs.Faults.{on_error}
use Rattle.program.proofs.RunningLemmas.{done_flushed, done_halted}
use Rattle.program.proofs.running.perform_whole.Goals as goal

pub returns-in_err-flush_output-clause-done : goal.returns-in_err-flush_output-clause-done
returns-in_err-flush_output-clause-done g c =
    on_error _ _ c.from_residual-in_err-flush_output.ensures.0
    (done_halted (g.A.Opening.words.kinds) (g.A.Application.meaning) c.args.settings.now c.in_ok-ending.ending.status _ _ _ _ _ c.in_ok-ending.ensures.done
    c.in_err-flush_output.ensures.written)

pub returns-clause-done : goal.returns-clause-done
returns-clause-done g c = done_flushed (g.A.Opening.words.kinds) (g.A.Application.meaning) c.args.settings.now c.in_ok-ending.ending.status _ _ _ _ _
    c.in_ok-ending.ensures.done
    c.in_ok-flush_output.ensures.written
