use Rattle.command_line.specs.Faults.{IsRightOf}
use Rattle.clap.proofs.TakesLemmas.{passed_up}
use Rattle.std.proofs.Common.{ℕ, rules}
use Rattle.clap.specs.Words.{found_of, rows_of}
use Rattle.command_line.specs.Options.{IsNumberWithin}
use Rattle.command_line.proofs.NumberLemmas.{on_err}
use Rattle.command_line.proofs.options.small_number.Goals as goal

pub returns-in_err-number-clause-none : goal.returns-in_err-number-clause-none
returns-in_err-number-clause-none c =
    on_err {X = (n : ℕ) → IsNumberWithin (rows_of (found_of c.args.matches.now)) c.args.name.now c.args.least c.args.most n → ⊥} _
    (λ n i. c.in_err-number.ensures.none n (rw (c.from.ensures, c.from-2.ensures) i))

pub returns-clause-some : goal.returns-clause-some
returns-clause-some c = search rules

pub returns-in_err-number-clause-right : goal.returns-in_err-number-clause-right
returns-in_err-number-clause-right c =
    λ kinds meaning given table has. passed_up _ c.in_err-number.field-0.0
    (IsRightOf kinds meaning given table (rows_of (found_of c.args.matches.now))) c.from_residual.ensures.1
    (c.in_err-number.ensures.right kinds meaning given table (rw (c.from.ensures, c.from-2.ensures) has))
