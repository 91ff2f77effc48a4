use Rattle.std.proofs.Common.{inl, codes, subst}
use Rattle.command_line.specs.Faults.{IsRightOf}
use Rattle.clap.specs.Words.{found_of, rows_of}
use Rattle.command_line.specs.Options.{IsAccepted, SetsRunning, WantsMemory}
use Rattle.cluster_setup.specs.declared.cluster_settings.ClusterSettings.{ClusterSettings}
use Rattle.command_line.proofs.KindLemmas.{same_kind}
use Rattle.command_line.proofs.MatchesLemmas.{none_set, not_so}
use Rattle.clap.proofs.TakesLemmas.{passed_up}
use Rattle.command_line.proofs.settings_of_words.cluster_settings.Goals as goal

pub returns-in_err-rounds-clause-none : goal.returns-in_err-rounds-clause-none
returns-in_err-rounds-clause-none g c =
    none_set (SetsRunning (g.A.Opening.words.kinds) (g.A.Application.meaning) c.args.given (rows_of (found_of c.args.matches.now))) WantsMemory _
    (λ s i. c.in_err-rounds.ensures.none s.rounds i.rounds)

pub returns-in_err-base_ms-clause-none : goal.returns-in_err-base_ms-clause-none
returns-in_err-base_ms-clause-none g c =
    none_set (SetsRunning (g.A.Opening.words.kinds) (g.A.Application.meaning) c.args.given (rows_of (found_of c.args.matches.now))) WantsMemory _
    (λ s i. c.in_err-base_ms.ensures.none s.base_ms i.base)

pub returns-in_err-log-clause-none : goal.returns-in_err-log-clause-none
returns-in_err-log-clause-none g c =
    none_set (SetsRunning (g.A.Opening.words.kinds) (g.A.Application.meaning) c.args.given (rows_of (found_of c.args.matches.now))) WantsMemory _
    (λ s i. c.in_err-log.ensures.none s.log i.log)

pub returns-in_err-tx-clause-none : goal.returns-in_err-tx-clause-none
returns-in_err-tx-clause-none g c =
    passed_up _ c.in_err-tx.field-0.0 (λ e. (s : ClusterSettings)
    → SetsRunning (g.A.Opening.words.kinds) (g.A.Application.meaning) c.args.given (rows_of (found_of c.args.matches.now)) s → WantsMemory e)
    c.from_residual-in_err-tx.ensures.1 (λ s i.
    c.in_err-tx.ensures.none s.tx
    (subst (λ k. IsAccepted (g.A.Application.meaning) (rows_of (found_of c.args.matches.now)) (codes "tx") k s.tx)
    (same_kind (g.A.Opening.words.kinds) _ _ _ s.cluster c.in_ok-cluster.cluster i.cluster c.in_ok-cluster.ensures.some) i.tx))

pub returns-clause-some : goal.returns-clause-some
returns-clause-some g c = record {
  cluster = c.in_ok-cluster.ensures.some;
  tx = c.in_ok-tx.ensures.some;
  rounds = c.in_ok-rounds.ensures.some;
  base = c.in_ok-base_ms.ensures.some;
  steady = c.is_named-is_steady.ensures;
  creates_empty = not_so c.is_named-is_sparing.result _ c.is_named-is_sparing.ensures;
  log = c.in_ok-log.ensures.some;
  stops = c.is_named.ensures;
  histories = c.in_ok-histories.ensures;
}

pub returns-in_err-cluster-clause-right : goal.returns-in_err-cluster-clause-right
returns-in_err-cluster-clause-right g c =
    λ table has. passed_up _ c.in_err-cluster.field-0.0 (IsRightOf (g.A.Opening.words.kinds) (g.A.Application.meaning) c.args.given table (rows_of (found_of c.args.matches.now)))
    c.from_residual.ensures.1
    (c.in_err-cluster.ensures.right (g.A.Application.meaning) table has.cluster)

pub returns-in_err-tx-clause-right : goal.returns-in_err-tx-clause-right
returns-in_err-tx-clause-right g c =
    λ table has. passed_up _ c.in_err-tx.field-0.0 (IsRightOf (g.A.Opening.words.kinds) (g.A.Application.meaning) c.args.given table (rows_of (found_of c.args.matches.now)))
    c.from_residual-in_err-tx.ensures.1 (c.in_err-tx.ensures.right c.args.given table has.tx c.in_ok-cluster.ensures.some.kind)

pub returns-in_err-rounds-clause-right : goal.returns-in_err-rounds-clause-right
returns-in_err-rounds-clause-right g c =
    λ table has. passed_up _ c.in_err-rounds.field-0.0 (IsRightOf (g.A.Opening.words.kinds) (g.A.Application.meaning) c.args.given table (rows_of (found_of c.args.matches.now)))
    c.from_residual-in_err-rounds.ensures.1 (c.in_err-rounds.ensures.right (g.A.Opening.words.kinds) (g.A.Application.meaning) c.args.given table
    (has.rounds, inl has.rounds_limits))

pub returns-in_err-base_ms-clause-right : goal.returns-in_err-base_ms-clause-right
returns-in_err-base_ms-clause-right g c =
    λ table has. passed_up _ c.in_err-base_ms.field-0.0 (IsRightOf (g.A.Opening.words.kinds) (g.A.Application.meaning) c.args.given table (rows_of (found_of c.args.matches.now)))
    c.from_residual-in_err-base_ms.ensures.1 (c.in_err-base_ms.ensures.right (g.A.Opening.words.kinds) (g.A.Application.meaning) c.args.given table
    (has.base, inl has.base_limits))

pub returns-in_err-log-clause-right : goal.returns-in_err-log-clause-right
returns-in_err-log-clause-right g c =
    λ table has. passed_up _ c.in_err-log.field-0.0 (IsRightOf (g.A.Opening.words.kinds) (g.A.Application.meaning) c.args.given table (rows_of (found_of c.args.matches.now)))
    c.from_residual-in_err-log.ensures.1 (c.in_err-log.ensures.right (g.A.Opening.words.kinds) (g.A.Application.meaning) c.args.given table has.log)
