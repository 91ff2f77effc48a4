use Rattle.command_line.specs.Options.{draw_options, SetsDraw, WantsMemory}
use Rattle.std.proofs.Common.{refl, inl}
use Rattle.command_line.specs.Faults.{IsRightOf}
use Rattle.clap.specs.Words.{found_of, rows_of}
use Rattle.command_line.proofs.MatchesLemmas.{none_set}
use Rattle.clap.proofs.TakesLemmas.{passed_up}
use Rattle.command_line.proofs.Tables.{has_cluster}
use Rattle.command_line.specs.Faults.{IsUnfit}
use Rattle.command_line.proofs.UnfitLemmas.{plain_options, unfit_of}
use Rattle.command_line.proofs.settings_of_words.draw_settings.Goals as goal

pub returns-in_err-cluster-clause-right : goal.returns-in_err-cluster-clause-right
returns-in_err-cluster-clause-right g c =
    λ meaning. passed_up _ c.in_err-cluster.field-0.0 (IsRightOf (g.A.Opening.words.kinds) meaning c.args.given.seed draw_options (rows_of (found_of c.args.matches.now)))
    c.from_residual.ensures.1
    (c.in_err-cluster.ensures.right meaning draw_options (has_cluster _ _ _ _ _) refl)

pub returns-in_err-height-clause-none : goal.returns-in_err-height-clause-none
returns-in_err-height-clause-none g c =
    none_set (SetsDraw (g.A.Opening.words.kinds) c.args.given (rows_of (found_of c.args.matches.now))) WantsMemory _ (λ s i. c.in_err-height.ensures.none s.height i.height)

pub returns-in_err-height-clause-right : goal.returns-in_err-height-clause-right
returns-in_err-height-clause-right g c =
    λ meaning. passed_up _ c.in_err-height.field-0.0 (IsRightOf (g.A.Opening.words.kinds) meaning c.args.given.seed draw_options (rows_of (found_of c.args.matches.now)))
    c.from_residual-in_err-height.ensures.1 (c.in_err-height.ensures.right (g.A.Opening.words.kinds) meaning c.args.given.seed draw_options (refl, inl refl))

pub returns-in_err-first-clause-none : goal.returns-in_err-first-clause-none
returns-in_err-first-clause-none g c =
    none_set (SetsDraw (g.A.Opening.words.kinds) c.args.given (rows_of (found_of c.args.matches.now))) WantsMemory _ (λ s i. c.in_err-first.ensures.none s.first i.first)

pub returns-in_err-first-clause-right : goal.returns-in_err-first-clause-right
returns-in_err-first-clause-right g c =
    λ meaning. passed_up _ c.in_err-first.field-0.0 (IsRightOf (g.A.Opening.words.kinds) meaning c.args.given.seed draw_options (rows_of (found_of c.args.matches.now)))
    c.from_residual-in_err-first.ensures.1 (c.in_err-first.ensures.right (g.A.Opening.words.kinds) meaning c.args.given.seed draw_options (refl, inl refl))

pub returns-in_err-last-clause-none : goal.returns-in_err-last-clause-none
returns-in_err-last-clause-none g c =
    none_set (SetsDraw (g.A.Opening.words.kinds) c.args.given (rows_of (found_of c.args.matches.now))) WantsMemory _ (λ s i. c.in_err-last.ensures.none s.last i.last)

pub returns-in_err-last-clause-right : goal.returns-in_err-last-clause-right
returns-in_err-last-clause-right g c =
    λ meaning. passed_up _ c.in_err-last.field-0.0 (IsRightOf (g.A.Opening.words.kinds) meaning c.args.given.seed draw_options (rows_of (found_of c.args.matches.now)))
    c.from_residual-in_err-last.ensures.1 (c.in_err-last.ensures.right (g.A.Opening.words.kinds) meaning c.args.given.seed draw_options (refl, inl refl))

pub returns-in_err-cluster-clause-unfit : goal.returns-in_err-cluster-clause-unfit
returns-in_err-cluster-clause-unfit g c =
    passed_up _ c.in_err-cluster.field-0.0 (IsUnfit (g.A.Opening.words.kinds) c.args.given.cluster) c.from_residual.ensures.1 c.in_err-cluster.ensures.unfit

pub returns-in_err-height-clause-unfit : goal.returns-in_err-height-clause-unfit
returns-in_err-height-clause-unfit g c =
    passed_up _ c.in_err-height.field-0.0 (IsUnfit (g.A.Opening.words.kinds) c.args.given.cluster) c.from_residual-in_err-height.ensures.1
    (unfit_of (g.A.Opening.words.kinds) (g.A.Application.meaning) c.args.given.seed c.args.given.cluster plain_options _ _ (λ bad. absurd cc)
    (c.in_err-height.ensures.right (g.A.Opening.words.kinds) (g.A.Application.meaning) c.args.given.seed plain_options (refl, inl refl)))

pub returns-in_err-first-clause-unfit : goal.returns-in_err-first-clause-unfit
returns-in_err-first-clause-unfit g c =
    passed_up _ c.in_err-first.field-0.0 (IsUnfit (g.A.Opening.words.kinds) c.args.given.cluster) c.from_residual-in_err-first.ensures.1
    (unfit_of (g.A.Opening.words.kinds) (g.A.Application.meaning) c.args.given.seed c.args.given.cluster plain_options _ _ (λ bad. absurd cc)
    (c.in_err-first.ensures.right (g.A.Opening.words.kinds) (g.A.Application.meaning) c.args.given.seed plain_options (refl, inl refl)))

pub returns-in_err-last-clause-unfit : goal.returns-in_err-last-clause-unfit
returns-in_err-last-clause-unfit g c =
    passed_up _ c.in_err-last.field-0.0 (IsUnfit (g.A.Opening.words.kinds) c.args.given.cluster) c.from_residual-in_err-last.ensures.1
    (unfit_of (g.A.Opening.words.kinds) (g.A.Application.meaning) c.args.given.seed c.args.given.cluster plain_options _ _ (λ bad. absurd cc)
    (c.in_err-last.ensures.right (g.A.Opening.words.kinds) (g.A.Application.meaning) c.args.given.seed plain_options (refl, inl refl)))
