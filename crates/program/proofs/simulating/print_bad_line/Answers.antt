use Rattle.byte_streams.proofs.Faults.{on_error}
use Rattle.byte_streams.proofs.WritingLemmas.{nothing_some}
use Rattle.program.specs.Simulating.{bad_line}
use Rattle.program.proofs.simulating.print_bad_line.Goals as goal

pub returns-in_err-line-clause-written : goal.returns-in_err-line-clause-written
returns-in_err-line-clause-written g c = on_error _ _ c.from_residual.ensures.0 (nothing_some _ (bad_line c.args.number))
