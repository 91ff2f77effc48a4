use Rattle.clap.proofs.TakesLemmas.{passed_up}
use Rattle.command_line.specs.Faults.{IsRightFault}
use Rattle.std.proofs.Common.{map}
use Rattle.clap.specs.Words.{subcommand_rows_of}
use Rattle.command_line.proofs.FaultLemmas.{options_right}
use Rattle.command_line.specs.Faults.{IsUnfit}
use Rattle.command_line.proofs.UnfitLemmas.{unfit_refused}
use Rattle.command_line.proofs.settings_of_words.settings.Goals as goal

pub returns-clause-right : goal.returns-clause-right
returns-clause-right g c =
    options_right (g.A.Opening.words) (g.A.Application.meaning) c.args.given.seed (map (λ w. w.now) c.args.words.now)
    (subcommand_rows_of c.in_ok-matches.matches) c.settings_of.result
    c.in_ok-matches.ensures.taken c.in_ok-matches.ensures.found c.settings_of.ensures.right

pub returns-in_err-matches-clause-right : goal.returns-in_err-matches-clause-right
returns-in_err-matches-clause-right g c =
    passed_up _ c.in_err-matches.field-0.0 (IsRightFault (g.A.Opening.words) (g.A.Application.meaning) c.args.given.seed (map (λ w. w.now) c.args.words.now))
    c.from_residual.ensures.1 (c.in_err-matches.ensures.right (g.A.Application.meaning) c.args.given.seed)

pub returns-in_err-matches-clause-unfit : goal.returns-in_err-matches-clause-unfit
returns-in_err-matches-clause-unfit g c =
    passed_up _ c.in_err-matches.field-0.0 (IsUnfit (g.A.Opening.words.kinds) c.args.given.cluster) c.from_residual.ensures.1
    (unfit_refused (g.A.Opening.words) (g.A.Application.meaning) c.args.given.seed (map (λ w. w.now) c.args.words.now) c.args.given.cluster _
    c.in_err-matches.ensures.kinds (c.in_err-matches.ensures.right (g.A.Application.meaning) c.args.given.seed))
