use Rattle.clap.proofs.TakesLemmas.{passed_up}
use Rattle.clap.specs.Words.{found_of, rows_of}
use Rattle.command_line.specs.Faults.{IsRightOf}
use Rattle.command_line.specs.Faults.{IsUnfit}
use Rattle.command_line.specs.Options.{sign_options}
use Rattle.command_line.proofs.Tables.{has_cluster}
use Rattle.command_line.proofs.UnfitLemmas.{unfit_of}
use Rattle.command_line.proofs.known_clusters.known_cluster.Goals as goal

pub returns-in_err-public-in-Some-clause-right : goal.returns-in_err-public-in-Some-clause-right
returns-in_err-public-in-Some-clause-right g c =
    λ meaning table has file. passed_up _ c.in_err-public-in-Some.field-0.0
    (IsRightOf (g.A.Opening.words.kinds) meaning c.args.given.seed table (rows_of (found_of c.args.matches.now)))
    c.from_residual.ensures.1 (c.in_err-public-in-Some.ensures.right meaning c.args.given.seed table file)

pub returns-in_err-seeded-in-None-clause-right : goal.returns-in_err-seeded-in-None-clause-right
returns-in_err-seeded-in-None-clause-right g c =
    λ meaning table has file. passed_up _ c.in_err-seeded-in-None.field-0.0
    (IsRightOf (g.A.Opening.words.kinds) meaning c.args.given.seed table (rows_of (found_of c.args.matches.now)))
    c.from_residual-in_err-seeded-in-None.ensures.1 (c.in_err-seeded-in-None.ensures.right meaning table has)

pub returns-in_err-public-in-Some-clause-unfit : goal.returns-in_err-public-in-Some-clause-unfit
returns-in_err-public-in-Some-clause-unfit g c =
    passed_up _ c.in_err-public-in-Some.field-0.0 (IsUnfit (g.A.Opening.words.kinds) c.args.given.cluster) c.from_residual.ensures.1
    c.in_err-public-in-Some.ensures.unfit

pub returns-in_err-seeded-in-None-clause-unfit : goal.returns-in_err-seeded-in-None-clause-unfit
returns-in_err-seeded-in-None-clause-unfit g c =
    passed_up _ c.in_err-seeded-in-None.field-0.0 (IsUnfit (g.A.Opening.words.kinds) c.args.given.cluster)
    c.from_residual-in_err-seeded-in-None.ensures.1
    (unfit_of (g.A.Opening.words.kinds) (g.A.Application.meaning) c.args.given.seed c.args.given.cluster sign_options _ _ (λ bad. absurd cc)
    (c.in_err-seeded-in-None.ensures.right (g.A.Application.meaning) sign_options (has_cluster _ _ _ _ _)))
