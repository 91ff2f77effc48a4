use Rattle.command_line.specs.Faults.{IsRightOf}
use Rattle.clap.specs.Words.{found_of, rows_of}
use Rattle.std.proofs.Common.{◌∙◌, Some, ap, rules}
use Rattle.clap.proofs.TakesLemmas.{passed_up}
use Rattle.command_line.proofs.options.what.Goals as goal

pub returns-in_err-word-clause-right : goal.returns-in_err-word-clause-right
returns-in_err-word-clause-right c =
    λ kinds meaning given table has. passed_up _ c.in_err-word.field-0.0
    (IsRightOf kinds meaning given table (rows_of (found_of c.args.matches.now))) c.from_residual.ensures.1
    (c.in_err-word.ensures.right kinds meaning given table has)

pub returns-in_default-clause-none : goal.returns-in_default-clause-none
returns-in_default-clause-none c = search rules

pub returns-in_default-clause-right : goal.returns-in_default-clause-right
returns-in_default-clause-right c =
    λ kinds meaning given table has. (
      has,
      (
        c.in_ok-word.ensures.some,
        λ w same. returns-in_default-clause-none c w
            (c.in_ok-word.ensures.some ∙ ap Some same),
      ),
    )
