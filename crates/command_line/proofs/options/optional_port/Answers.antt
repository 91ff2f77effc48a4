use Rattle.command_line.specs.Faults.{IsRightOf}
use Rattle.clap.specs.Words.{found_of, rows_of}
use Rattle.clap.proofs.TakesLemmas.{passed_up}
use Rattle.command_line.proofs.options.optional_port.Goals as goal

pub returns-in_err-port-clause-right : goal.returns-in_err-port-clause-right
returns-in_err-port-clause-right c =
    λ kinds meaning given table takes. passed_up _ c.in_err-port.field-0.0 (IsRightOf kinds meaning given table (rows_of (found_of c.args.matches.now)))
    c.from_residual.ensures.1 (c.in_err-port.ensures.right kinds meaning given table takes)
