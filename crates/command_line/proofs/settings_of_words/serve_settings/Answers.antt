use Rattle.command_line.specs.Options.{serve_options, SetsServe, WantsMemory}
use Rattle.std.proofs.Common.{refl, inl}
use Rattle.command_line.specs.Faults.{IsRightOf}
use Rattle.clap.specs.Words.{found_of, rows_of}
use Rattle.cluster_setup.specs.declared.cluster_settings.ServeSettings.{ServeSettings}
use Rattle.command_line.proofs.MatchesLemmas.{none_set}
use Rattle.clap.proofs.TakesLemmas.{passed_up}
use Rattle.command_line.proofs.Tables.{has_running}
use Rattle.command_line.proofs.settings_of_words.serve_settings.Goals as goal

pub returns-in_err-cluster-clause-none : goal.returns-in_err-cluster-clause-none
returns-in_err-cluster-clause-none g c =
    passed_up _ c.in_err-cluster.field-0.0 (λ e. (s : ServeSettings)
    → SetsServe (g.A.Opening.words.kinds) (g.A.Application.meaning) c.args.given (rows_of (found_of c.args.matches.now)) s → WantsMemory e)
    c.from_residual.ensures.1 (λ s i. c.in_err-cluster.ensures.none s.cluster i.cluster)

pub returns-in_err-port-clause-none : goal.returns-in_err-port-clause-none
returns-in_err-port-clause-none g c =
    none_set (SetsServe (g.A.Opening.words.kinds) (g.A.Application.meaning) c.args.given (rows_of (found_of c.args.matches.now))) WantsMemory _
    (λ s i. c.in_err-port.ensures.none s.port i.port)

pub returns-in_err-http-clause-none : goal.returns-in_err-http-clause-none
returns-in_err-http-clause-none g c =
    none_set (SetsServe (g.A.Opening.words.kinds) (g.A.Application.meaning) c.args.given (rows_of (found_of c.args.matches.now))) WantsMemory _
    (λ s i. c.in_err-http.ensures.none s.http i.http)

pub returns-in_err-sessions-clause-none : goal.returns-in_err-sessions-clause-none
returns-in_err-sessions-clause-none g c =
    none_set (SetsServe (g.A.Opening.words.kinds) (g.A.Application.meaning) c.args.given (rows_of (found_of c.args.matches.now))) WantsMemory _
    (λ s i. c.in_err-sessions.ensures.none s.sessions i.sessions)

pub returns-in_err-client_entries-clause-none : goal.returns-in_err-client_entries-clause-none
returns-in_err-client_entries-clause-none g c =
    none_set (SetsServe (g.A.Opening.words.kinds) (g.A.Application.meaning) c.args.given (rows_of (found_of c.args.matches.now))) WantsMemory _
    (λ s i. c.in_err-client_entries.ensures.none s.client_entries i.entries)

pub returns-in_err-cluster-clause-right : goal.returns-in_err-cluster-clause-right
returns-in_err-cluster-clause-right g c =
    passed_up _ c.in_err-cluster.field-0.0 (IsRightOf (g.A.Opening.words.kinds) (g.A.Application.meaning) c.args.given serve_options (rows_of (found_of c.args.matches.now)))
    c.from_residual.ensures.1
    (c.in_err-cluster.ensures.right serve_options (has_running _ _ _ _))

pub returns-in_err-port-clause-right : goal.returns-in_err-port-clause-right
returns-in_err-port-clause-right g c =
    passed_up _ c.in_err-port.field-0.0 (IsRightOf (g.A.Opening.words.kinds) (g.A.Application.meaning) c.args.given serve_options (rows_of (found_of c.args.matches.now)))
    c.from_residual-in_err-port.ensures.1 (c.in_err-port.ensures.right (g.A.Opening.words.kinds) (g.A.Application.meaning) c.args.given serve_options (refl, inl refl))

pub returns-in_err-http-clause-right : goal.returns-in_err-http-clause-right
returns-in_err-http-clause-right g c =
    passed_up _ c.in_err-http.field-0.0 (IsRightOf (g.A.Opening.words.kinds) (g.A.Application.meaning) c.args.given serve_options (rows_of (found_of c.args.matches.now)))
    c.from_residual-in_err-http.ensures.1 (c.in_err-http.ensures.right (g.A.Opening.words.kinds) (g.A.Application.meaning) c.args.given serve_options (refl, inl refl))

pub returns-in_err-sessions-clause-right : goal.returns-in_err-sessions-clause-right
returns-in_err-sessions-clause-right g c =
    passed_up _ c.in_err-sessions.field-0.0 (IsRightOf (g.A.Opening.words.kinds) (g.A.Application.meaning) c.args.given serve_options (rows_of (found_of c.args.matches.now)))
    c.from_residual-in_err-sessions.ensures.1 (c.in_err-sessions.ensures.right (g.A.Opening.words.kinds) (g.A.Application.meaning) c.args.given serve_options (refl, inl refl))

pub returns-in_err-client_entries-clause-right : goal.returns-in_err-client_entries-clause-right
returns-in_err-client_entries-clause-right g c =
    passed_up _ c.in_err-client_entries.field-0.0 (IsRightOf (g.A.Opening.words.kinds) (g.A.Application.meaning) c.args.given serve_options
    (rows_of (found_of c.args.matches.now)))
    c.from_residual-in_err-client_entries.ensures.1 (c.in_err-client_entries.ensures.right (g.A.Opening.words.kinds) (g.A.Application.meaning) c.args.given serve_options
    (refl, inl refl))
