use Rattle.command_line.specs.Faults.{IsRightOf}
use Rattle.clap.proofs.TakesLemmas.{passed_up}
use Rattle.std.proofs.Common.{codes}
use Rattle.clap.specs.Words.{found_of, rows_of}
use Rattle.ledger_model.specs.declared.version.Version.{Version}
use Rattle.ledger_model.specs.Numbers.{version_number}
use Rattle.command_line.specs.Options.{IsNumberWithin}
use Rattle.command_line.proofs.NumberLemmas.{on_err}
use Rattle.command_line.proofs.options.frames.Goals as goal

pub returns-in_err-number-clause-none : goal.returns-in_err-number-clause-none
returns-in_err-number-clause-none c =
    on_err {X = (v : Version) → IsNumberWithin (rows_of (found_of c.args.matches.now)) (codes "frames") 1 2 (version_number v) → ⊥} _
    (λ v i. c.in_err-number.ensures.none (version_number v) i)

pub returns-in_err-number-clause-right : goal.returns-in_err-number-clause-right
returns-in_err-number-clause-right c =
    λ kinds meaning given table has. passed_up _ c.in_err-number.field-0.0
    (IsRightOf kinds meaning given table (rows_of (found_of c.args.matches.now))) c.from_residual.ensures.1
    (c.in_err-number.ensures.right kinds meaning given table has)
