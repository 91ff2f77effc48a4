use Rattle.command_line.specs.Options.{sign_options, SetsSign, WantsMemory}
use Rattle.std.proofs.Common.{refl, inl}
use Rattle.command_line.specs.Faults.{IsRightOf}
use Rattle.clap.specs.Words.{found_of, rows_of}
use Rattle.cluster_setup.specs.declared.sign_settings.SignSettings.{SignSettings}
use Rattle.command_line.proofs.NumberLemmas.{same_limit}
use Rattle.command_line.proofs.MatchesLemmas.{none_set}
use Rattle.clap.proofs.TakesLemmas.{passed_up}
use Rattle.command_line.proofs.Tables.{has_cluster, takes_replica}
use Rattle.command_line.proofs.settings_of_words.sign_settings.Goals as goal

pub returns-in_err-replica-clause-none : goal.returns-in_err-replica-clause-none
returns-in_err-replica-clause-none g c =
    none_set (SetsSign (g.A.Opening.words.kinds) c.args.given (rows_of (found_of c.args.matches.now))) WantsMemory _ (λ s i. c.in_err-replica.ensures.none s.replica
    (same_limit _ _ _ _ i.cluster.n c.in_ok-cluster.ensures.some.n i.replica))

pub returns-in_err-height-clause-none : goal.returns-in_err-height-clause-none
returns-in_err-height-clause-none g c =
    none_set (SetsSign (g.A.Opening.words.kinds) c.args.given (rows_of (found_of c.args.matches.now))) WantsMemory _ (λ s i. c.in_err-height.ensures.none s.height i.height)

pub returns-in_err-phase-clause-none : goal.returns-in_err-phase-clause-none
returns-in_err-phase-clause-none g c =
    none_set (SetsSign (g.A.Opening.words.kinds) c.args.given (rows_of (found_of c.args.matches.now))) WantsMemory _ (λ s i. c.in_err-phase.ensures.none s.phase i.phase)

pub returns-in_err-value-clause-none : goal.returns-in_err-value-clause-none
returns-in_err-value-clause-none g c =
    passed_up _ c.in_err-value.field-0.0 (λ e. (s : SignSettings) → SetsSign (g.A.Opening.words.kinds) c.args.given (rows_of (found_of c.args.matches.now)) s → WantsMemory e)
    c.from_residual-in_err-value.ensures.1 (λ s i. c.in_err-value.ensures.none s.value i.value)

pub returns-in_err-cluster-clause-right : goal.returns-in_err-cluster-clause-right
returns-in_err-cluster-clause-right g c =
    λ meaning. passed_up _ c.in_err-cluster.field-0.0 (IsRightOf (g.A.Opening.words.kinds) meaning c.args.given sign_options (rows_of (found_of c.args.matches.now)))
    c.from_residual.ensures.1
    (c.in_err-cluster.ensures.right meaning sign_options (has_cluster _ _ _ _ _))

pub returns-in_err-what-clause-right : goal.returns-in_err-what-clause-right
returns-in_err-what-clause-right g c =
    λ meaning. passed_up _ c.in_err-what.field-0.0 (IsRightOf (g.A.Opening.words.kinds) meaning c.args.given sign_options (rows_of (found_of c.args.matches.now)))
    c.from_residual-in_err-what.ensures.1 (c.in_err-what.ensures.right (g.A.Opening.words.kinds) meaning c.args.given sign_options refl)

pub returns-in_err-replica-clause-right : goal.returns-in_err-replica-clause-right
returns-in_err-replica-clause-right g c =
    λ meaning. passed_up _ c.in_err-replica.field-0.0 (IsRightOf (g.A.Opening.words.kinds) meaning c.args.given sign_options (rows_of (found_of c.args.matches.now)))
    c.from_residual-in_err-replica.ensures.1
    (c.in_err-replica.ensures.right (g.A.Opening.words.kinds) meaning c.args.given sign_options (takes_replica (g.A.Opening.words.kinds) sign_options _ _ refl c.in_ok-cluster.ensures.some.n))

pub returns-in_err-height-clause-right : goal.returns-in_err-height-clause-right
returns-in_err-height-clause-right g c =
    λ meaning. passed_up _ c.in_err-height.field-0.0 (IsRightOf (g.A.Opening.words.kinds) meaning c.args.given sign_options (rows_of (found_of c.args.matches.now)))
    c.from_residual-in_err-height.ensures.1 (c.in_err-height.ensures.right (g.A.Opening.words.kinds) meaning c.args.given sign_options (refl, inl refl))

pub returns-in_err-phase-clause-right : goal.returns-in_err-phase-clause-right
returns-in_err-phase-clause-right g c =
    λ meaning. passed_up _ c.in_err-phase.field-0.0 (IsRightOf (g.A.Opening.words.kinds) meaning c.args.given sign_options (rows_of (found_of c.args.matches.now)))
    c.from_residual-in_err-phase.ensures.1 (c.in_err-phase.ensures.right (g.A.Opening.words.kinds) meaning c.args.given sign_options (refl, inl refl))

pub returns-in_err-value-clause-right : goal.returns-in_err-value-clause-right
returns-in_err-value-clause-right g c =
    λ meaning. passed_up _ c.in_err-value.field-0.0 (IsRightOf (g.A.Opening.words.kinds) meaning c.args.given sign_options (rows_of (found_of c.args.matches.now)))
    c.from_residual-in_err-value.ensures.1 (c.in_err-value.ensures.right (g.A.Opening.words.kinds) meaning c.args.given sign_options (refl, refl))
