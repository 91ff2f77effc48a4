use Rattle.program.specs.Lines.{line_bytes}
use Rattle.byte_streams.proofs.WritingLemmas.{nothing_some}
use Rattle.program.proofs.line_printing.print_line.Goals as goal

pub returns-in_default-clause-written : goal.returns-in_default-clause-written
returns-in_default-clause-written g c = nothing_some _ (line_bytes c.args.line)
