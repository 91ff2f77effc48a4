use Rattle.std.proofs.Common.{◌≡◌, ◌∙◌, inl, inr, List, Some, refl, rules, codes, subst, sym}
use Rattle.std.proofs.lemmas.Option.{same_Some}
use Rattle.clap.specs.Words.{Row, found_of, rows_of}
use Rattle.command_line.specs.Options.{Sets, SetsSign, SetsDeliver, SetsSimulate, SetsRunning, SetsServe, SetsAudit, SetsDraw, SetsKeys, WantsMemory}
use Rattle.command_line.specs.Options.{running_options}
use Rattle.cluster_setup.specs.declared.settings.Settings.TheVariants as settings
use Rattle.command_line.specs.Faults.{IsNoSubcommand}
use Rattle.command_line.proofs.FaultLemmas.{right_alike}
use Rattle.command_line.proofs.MatchesLemmas.{found_is, names_one, refused_alike, set_alike, refused_anyway, sets_sign, sets_deliver}
use Rattle.command_line.proofs.MatchesLemmas.{sets_simulate, sets_cluster, sets_serve, sets_audit, sets_draw, sets_keys}
use Rattle.command_line.proofs.Tables.{has_running}
use Rattle.command_line.specs.Faults.{IsUnfit}
use Rattle.command_line.specs.Options.{deliver_options, keys_options, serve_options, sign_options, simulate_options}
use Rattle.command_line.proofs.UnfitLemmas.{error_alike, unfit_result}
use Rattle.command_line.proofs.settings_of_words.settings_of.Goals as goal

pub returns-in-sign-clause-set : goal.returns-in-sign-clause-set
returns-in-sign-clause-set g c =
    let rows : List Row = rows_of (found_of c.in-Some.options.now) in
    let found = found_is c.args.matches.now (codes "sign") rows (search (rules, c.in-sign.is, c.in-Some.ensures.name))
    c.in-Some.ensures.rows in
    set_alike (g.A.Opening.words.kinds) (g.A.Application.meaning) c.args.given (λ t s. s ≡ settings.Sign t) (SetsSign (g.A.Opening.words.kinds) c.args.given.seed rows) _ _ c.sign_settings.result c.map.result found
    (λ t s is set. subst (λ x. Sets (g.A.Opening.words.kinds) (g.A.Application.meaning) c.args.given (Some (codes "sign", rows)) x) (sym is) (refl, set))
    c.sign_settings.ensures.some
    c.map.ensures.cases

pub returns-in-sign-clause-refused : goal.returns-in-sign-clause-refused
returns-in-sign-clause-refused g c =
    let rows : List Row = rows_of (found_of c.in-Some.options.now) in
    let found = found_is c.args.matches.now (codes "sign") rows (search (rules, c.in-sign.is, c.in-Some.ensures.name))
    c.in-Some.ensures.rows in
    refused_alike (g.A.Opening.words.kinds) (g.A.Application.meaning) c.args.given _ (SetsSign (g.A.Opening.words.kinds) c.args.given.seed rows) _ _ c.sign_settings.result c.map.result found
    (λ e s. sets_sign (g.A.Opening.words.kinds) (g.A.Application.meaning) c.args.given rows s) c.sign_settings.ensures.none
    c.map.ensures.cases

pub returns-in-deliver-clause-set : goal.returns-in-deliver-clause-set
returns-in-deliver-clause-set g c =
    let rows : List Row = rows_of (found_of c.in-Some.options.now) in
    let found = found_is c.args.matches.now (codes "deliver") rows (search (rules, c.in-deliver.is, c.in-Some.ensures.name))
    c.in-Some.ensures.rows in
    set_alike (g.A.Opening.words.kinds) (g.A.Application.meaning) c.args.given (λ t s. s ≡ settings.Deliver t)
    (SetsDeliver (g.A.Opening.words.kinds) (g.A.Application.meaning) c.args.given.seed rows) _ _ c.deliver_settings.result c.map-in-deliver.result found
    (λ t s is set. subst (λ x. Sets (g.A.Opening.words.kinds) (g.A.Application.meaning) c.args.given (Some (codes "deliver", rows)) x) (sym is) (refl, set))
    c.deliver_settings.ensures.some
    c.map-in-deliver.ensures.cases

pub returns-in-deliver-clause-refused : goal.returns-in-deliver-clause-refused
returns-in-deliver-clause-refused g c =
    let rows : List Row = rows_of (found_of c.in-Some.options.now) in
    let found = found_is c.args.matches.now (codes "deliver") rows (search (rules, c.in-deliver.is, c.in-Some.ensures.name))
    c.in-Some.ensures.rows in
    refused_alike (g.A.Opening.words.kinds) (g.A.Application.meaning) c.args.given _ (SetsDeliver (g.A.Opening.words.kinds) (g.A.Application.meaning) c.args.given.seed rows) _ _ c.deliver_settings.result
    c.map-in-deliver.result found (λ e s. sets_deliver (g.A.Opening.words.kinds) (g.A.Application.meaning) c.args.given rows s)
    c.deliver_settings.ensures.none c.map-in-deliver.ensures.cases

pub returns-in-simulate-clause-set : goal.returns-in-simulate-clause-set
returns-in-simulate-clause-set g c =
    let rows : List Row = rows_of (found_of c.in-Some.options.now) in
    let found = found_is c.args.matches.now (codes "simulate") rows (search (rules, c.in-simulate.is, c.in-Some.ensures.name))
    c.in-Some.ensures.rows in
    set_alike (g.A.Opening.words.kinds) (g.A.Application.meaning) c.args.given (λ t s. s ≡ settings.Simulate t)
    (SetsSimulate c.args.given.seed rows) _ _ c.simulate_settings.result c.map-in-simulate.result found
    (λ t s is set. subst (λ x. Sets (g.A.Opening.words.kinds) (g.A.Application.meaning) c.args.given (Some (codes "simulate", rows)) x) (sym is) (refl, set))
    c.simulate_settings.ensures.some
    c.map-in-simulate.ensures.cases

pub returns-in-simulate-clause-refused : goal.returns-in-simulate-clause-refused
returns-in-simulate-clause-refused g c =
    let rows : List Row = rows_of (found_of c.in-Some.options.now) in
    let found = found_is c.args.matches.now (codes "simulate") rows (search (rules, c.in-simulate.is, c.in-Some.ensures.name))
    c.in-Some.ensures.rows in
    refused_alike (g.A.Opening.words.kinds) (g.A.Application.meaning) c.args.given _ (SetsSimulate c.args.given.seed rows) _ _ c.simulate_settings.result c.map-in-simulate.result found
    (λ e s. sets_simulate (g.A.Opening.words.kinds) (g.A.Application.meaning) c.args.given rows s)
    (refused_anyway (SetsSimulate c.args.given.seed rows) WantsMemory _ c.simulate_settings.ensures.none) c.map-in-simulate.ensures.cases

pub returns-in-cluster-clause-set : goal.returns-in-cluster-clause-set
returns-in-cluster-clause-set g c =
    let rows : List Row = rows_of (found_of c.in-Some.options.now) in
    let found = found_is c.args.matches.now (codes "cluster") rows (search (rules, c.in-cluster.is, c.in-Some.ensures.name))
    c.in-Some.ensures.rows in
    set_alike (g.A.Opening.words.kinds) (g.A.Application.meaning) c.args.given (λ t s. s ≡ settings.Cluster t)
    (SetsRunning (g.A.Opening.words.kinds) (g.A.Application.meaning) c.args.given.seed rows) _ _ c.cluster_settings.result c.map-in-cluster.result found
    (λ t s is set. subst (λ x. Sets (g.A.Opening.words.kinds) (g.A.Application.meaning) c.args.given (Some (codes "cluster", rows)) x) (sym is) (refl, set))
    c.cluster_settings.ensures.some
    c.map-in-cluster.ensures.cases

pub returns-in-cluster-clause-refused : goal.returns-in-cluster-clause-refused
returns-in-cluster-clause-refused g c =
    let rows : List Row = rows_of (found_of c.in-Some.options.now) in
    let found = found_is c.args.matches.now (codes "cluster") rows (search (rules, c.in-cluster.is, c.in-Some.ensures.name))
    c.in-Some.ensures.rows in
    refused_alike (g.A.Opening.words.kinds) (g.A.Application.meaning) c.args.given _ (SetsRunning (g.A.Opening.words.kinds) (g.A.Application.meaning) c.args.given.seed rows) _ _ c.cluster_settings.result
    c.map-in-cluster.result found (λ e s. sets_cluster (g.A.Opening.words.kinds) (g.A.Application.meaning) c.args.given rows s)
    c.cluster_settings.ensures.none c.map-in-cluster.ensures.cases

pub returns-in-serve-clause-set : goal.returns-in-serve-clause-set
returns-in-serve-clause-set g c =
    let rows : List Row = rows_of (found_of c.in-Some.options.now) in
    let found = found_is c.args.matches.now (codes "serve") rows (search (rules, c.in-serve.is, c.in-Some.ensures.name))
    c.in-Some.ensures.rows in
    set_alike (g.A.Opening.words.kinds) (g.A.Application.meaning) c.args.given (λ t s. s ≡ settings.Serve t)
    (SetsServe (g.A.Opening.words.kinds) (g.A.Application.meaning) c.args.given.seed rows) _ _ c.serve_settings.result c.map-in-serve.result found
    (λ t s is set. subst (λ x. Sets (g.A.Opening.words.kinds) (g.A.Application.meaning) c.args.given (Some (codes "serve", rows)) x) (sym is) (refl, set))
    c.serve_settings.ensures.some
    c.map-in-serve.ensures.cases

pub returns-in-serve-clause-refused : goal.returns-in-serve-clause-refused
returns-in-serve-clause-refused g c =
    let rows : List Row = rows_of (found_of c.in-Some.options.now) in
    let found = found_is c.args.matches.now (codes "serve") rows (search (rules, c.in-serve.is, c.in-Some.ensures.name))
    c.in-Some.ensures.rows in
    refused_alike (g.A.Opening.words.kinds) (g.A.Application.meaning) c.args.given _ (SetsServe (g.A.Opening.words.kinds) (g.A.Application.meaning) c.args.given.seed rows) _ _ c.serve_settings.result c.map-in-serve.result
    found (λ e s. sets_serve (g.A.Opening.words.kinds) (g.A.Application.meaning) c.args.given rows s)
    c.serve_settings.ensures.none c.map-in-serve.ensures.cases

pub returns-in-audit-clause-set : goal.returns-in-audit-clause-set
returns-in-audit-clause-set g c =
    let rows : List Row = rows_of (found_of c.in-Some.options.now) in
    let found = found_is c.args.matches.now (codes "audit") rows (search (rules, c.in-audit.is, c.in-Some.ensures.name))
    c.in-Some.ensures.rows in
    set_alike (g.A.Opening.words.kinds) (g.A.Application.meaning) c.args.given (λ t s. s ≡ settings.Audit t)
    (SetsAudit (g.A.Opening.words.kinds) c.args.given rows) _ _ c.audit_settings.result c.map-in-audit.result found
    (λ t s is set. subst (λ x. Sets (g.A.Opening.words.kinds) (g.A.Application.meaning) c.args.given (Some (codes "audit", rows)) x) (sym is) (refl, set))
    c.audit_settings.ensures.some
    c.map-in-audit.ensures.cases

pub returns-in-draw-clause-set : goal.returns-in-draw-clause-set
returns-in-draw-clause-set g c =
    let rows : List Row = rows_of (found_of c.in-Some.options.now) in
    let found = found_is c.args.matches.now (codes "draw") rows (search (rules, c.in-draw.is, c.in-Some.ensures.name))
    c.in-Some.ensures.rows in
    set_alike (g.A.Opening.words.kinds) (g.A.Application.meaning) c.args.given (λ t s. s ≡ settings.Draw t) (SetsDraw (g.A.Opening.words.kinds) c.args.given rows) _ _ c.draw_settings.result c.map-in-draw.result found
    (λ t s is set. subst (λ x. Sets (g.A.Opening.words.kinds) (g.A.Application.meaning) c.args.given (Some (codes "draw", rows)) x) (sym is) (refl, set))
    c.draw_settings.ensures.some
    c.map-in-draw.ensures.cases

pub returns-in-audit-clause-refused : goal.returns-in-audit-clause-refused
returns-in-audit-clause-refused g c =
    let rows : List Row = rows_of (found_of c.in-Some.options.now) in
    let found = found_is c.args.matches.now (codes "audit") rows (search (rules, c.in-audit.is, c.in-Some.ensures.name))
    c.in-Some.ensures.rows in
    refused_alike (g.A.Opening.words.kinds) (g.A.Application.meaning) c.args.given _ (SetsAudit (g.A.Opening.words.kinds) c.args.given rows) _ _ c.audit_settings.result c.map-in-audit.result found
    (λ e s. sets_audit (g.A.Opening.words.kinds) (g.A.Application.meaning) c.args.given rows s)
    c.audit_settings.ensures.none c.map-in-audit.ensures.cases

pub returns-in-draw-clause-refused : goal.returns-in-draw-clause-refused
returns-in-draw-clause-refused g c =
    let rows : List Row = rows_of (found_of c.in-Some.options.now) in
    let found = found_is c.args.matches.now (codes "draw") rows (search (rules, c.in-draw.is, c.in-Some.ensures.name))
    c.in-Some.ensures.rows in
    refused_alike (g.A.Opening.words.kinds) (g.A.Application.meaning) c.args.given _ (SetsDraw (g.A.Opening.words.kinds) c.args.given rows) _ _ c.draw_settings.result c.map-in-draw.result found
    (λ e s. sets_draw (g.A.Opening.words.kinds) (g.A.Application.meaning) c.args.given rows s)
    c.draw_settings.ensures.none c.map-in-draw.ensures.cases

pub returns-in-keys-clause-set : goal.returns-in-keys-clause-set
returns-in-keys-clause-set g c =
    let rows : List Row = rows_of (found_of c.in-Some.options.now) in
    let found = found_is c.args.matches.now (codes "keys") rows (search (rules, c.in-keys.is, c.in-Some.ensures.name))
    c.in-Some.ensures.rows in
    set_alike (g.A.Opening.words.kinds) (g.A.Application.meaning) c.args.given (λ t s. s ≡ settings.Keys t) (SetsKeys (g.A.Opening.words.kinds) c.args.given.seed rows) _ _ c.keys_settings.result c.map-in-keys.result found
    (λ t s is set. subst (λ x. Sets (g.A.Opening.words.kinds) (g.A.Application.meaning) c.args.given (Some (codes "keys", rows)) x) (sym is) (refl, set))
    c.keys_settings.ensures.some
    c.map-in-keys.ensures.cases

pub returns-in-keys-clause-refused : goal.returns-in-keys-clause-refused
returns-in-keys-clause-refused g c =
    let rows : List Row = rows_of (found_of c.in-Some.options.now) in
    let found = found_is c.args.matches.now (codes "keys") rows (search (rules, c.in-keys.is, c.in-Some.ensures.name))
    c.in-Some.ensures.rows in
    refused_alike (g.A.Opening.words.kinds) (g.A.Application.meaning) c.args.given _ (SetsKeys (g.A.Opening.words.kinds) c.args.given.seed rows) _ _ c.keys_settings.result c.map-in-keys.result found
    (λ e s. sets_keys (g.A.Opening.words.kinds) (g.A.Application.meaning) c.args.given rows s)
    (refused_anyway (SetsKeys (g.A.Opening.words.kinds) c.args.given.seed rows) WantsMemory _ c.keys_settings.ensures.none) c.map-in-keys.ensures.cases

pub returns-in_default-name-clause-refused : goal.returns-in_default-name-clause-refused
returns-in_default-name-clause-refused g c = λ s sets.
    elim (names_one (g.A.Opening.words.kinds) (g.A.Application.meaning) c.args.given c.args.matches.now s sets) [
      | inl h ↦ c.in_default-name.not-sign (same_Some c.in-Some.name.now (codes "sign") (c.in-Some.ensures.name ∙ h))
      | inr (inl h) ↦ c.in_default-name.not-deliver (same_Some c.in-Some.name.now (codes "deliver") (c.in-Some.ensures.name ∙ h))
      | inr (inr (inl h)) ↦ c.in_default-name.not-simulate (same_Some c.in-Some.name.now (codes "simulate") (c.in-Some.ensures.name ∙ h))
      | inr (inr (inr (inl h))) ↦ c.in_default-name.not-cluster
          (same_Some c.in-Some.name.now (codes "cluster") (c.in-Some.ensures.name ∙ h))
      | inr (inr (inr (inr (inl h)))) ↦ c.in_default-name.not-serve
          (same_Some c.in-Some.name.now (codes "serve") (c.in-Some.ensures.name ∙ h))
      | inr (inr (inr (inr (inr (inl h))))) ↦ c.in_default-name.not-audit
          (same_Some c.in-Some.name.now (codes "audit") (c.in-Some.ensures.name ∙ h))
      | inr (inr (inr (inr (inr (inr (inl h)))))) ↦ c.in_default-name.not-draw
          (same_Some c.in-Some.name.now (codes "draw") (c.in-Some.ensures.name ∙ h))
      | inr (inr (inr (inr (inr (inr (inr h)))))) ↦ c.in_default-name.not-keys
          (same_Some c.in-Some.name.now (codes "keys") (c.in-Some.ensures.name ∙ h))
    ]

pub returns-in-sign-clause-right : goal.returns-in-sign-clause-right
returns-in-sign-clause-right g c =
    let rows : List Row = rows_of (found_of c.in-Some.options.now) in
    let found = found_is c.args.matches.now (codes "sign") rows (search (rules, c.in-sign.is, c.in-Some.ensures.name))
    c.in-Some.ensures.rows in
    right_alike (g.A.Opening.words.kinds) (g.A.Application.meaning) c.args.given.seed _ _ _ c.sign_settings.result c.map.result found
    (c.sign_settings.ensures.right (g.A.Application.meaning)) c.map.ensures.cases

pub returns-in-deliver-clause-right : goal.returns-in-deliver-clause-right
returns-in-deliver-clause-right g c =
    let rows : List Row = rows_of (found_of c.in-Some.options.now) in
    let found = found_is c.args.matches.now (codes "deliver") rows (search (rules, c.in-deliver.is, c.in-Some.ensures.name))
    c.in-Some.ensures.rows in
    right_alike (g.A.Opening.words.kinds) (g.A.Application.meaning) c.args.given.seed _ _ _ c.deliver_settings.result c.map-in-deliver.result found c.deliver_settings.ensures.right
    c.map-in-deliver.ensures.cases

pub returns-in-simulate-clause-right : goal.returns-in-simulate-clause-right
returns-in-simulate-clause-right g c =
    let rows : List Row = rows_of (found_of c.in-Some.options.now) in
    let found = found_is c.args.matches.now (codes "simulate") rows (search (rules, c.in-simulate.is, c.in-Some.ensures.name))
    c.in-Some.ensures.rows in
    right_alike (g.A.Opening.words.kinds) (g.A.Application.meaning) c.args.given.seed _ _ _ c.simulate_settings.result c.map-in-simulate.result found
    (c.simulate_settings.ensures.right (g.A.Opening.words.kinds) (g.A.Application.meaning))
    c.map-in-simulate.ensures.cases

pub returns-in-cluster-clause-right : goal.returns-in-cluster-clause-right
returns-in-cluster-clause-right g c =
    let rows : List Row = rows_of (found_of c.in-Some.options.now) in
    let found = found_is c.args.matches.now (codes "cluster") rows (search (rules, c.in-cluster.is, c.in-Some.ensures.name))
    c.in-Some.ensures.rows in
    right_alike (g.A.Opening.words.kinds) (g.A.Application.meaning) c.args.given.seed _ _ _ c.cluster_settings.result c.map-in-cluster.result found
    (c.cluster_settings.ensures.right running_options (has_running _ _ _ _))
    c.map-in-cluster.ensures.cases

pub returns-in-serve-clause-right : goal.returns-in-serve-clause-right
returns-in-serve-clause-right g c =
    let rows : List Row = rows_of (found_of c.in-Some.options.now) in
    let found = found_is c.args.matches.now (codes "serve") rows (search (rules, c.in-serve.is, c.in-Some.ensures.name))
    c.in-Some.ensures.rows in
    right_alike (g.A.Opening.words.kinds) (g.A.Application.meaning) c.args.given.seed _ _ _ c.serve_settings.result c.map-in-serve.result found c.serve_settings.ensures.right
    c.map-in-serve.ensures.cases

pub returns-in-audit-clause-right : goal.returns-in-audit-clause-right
returns-in-audit-clause-right g c =
    let rows : List Row = rows_of (found_of c.in-Some.options.now) in
    let found = found_is c.args.matches.now (codes "audit") rows (search (rules, c.in-audit.is, c.in-Some.ensures.name))
    c.in-Some.ensures.rows in
    right_alike (g.A.Opening.words.kinds) (g.A.Application.meaning) c.args.given.seed _ _ _ c.audit_settings.result c.map-in-audit.result found
    (c.audit_settings.ensures.right (g.A.Application.meaning)) c.map-in-audit.ensures.cases

pub returns-in-draw-clause-right : goal.returns-in-draw-clause-right
returns-in-draw-clause-right g c =
    let rows : List Row = rows_of (found_of c.in-Some.options.now) in
    let found = found_is c.args.matches.now (codes "draw") rows (search (rules, c.in-draw.is, c.in-Some.ensures.name))
    c.in-Some.ensures.rows in
    right_alike (g.A.Opening.words.kinds) (g.A.Application.meaning) c.args.given.seed _ _ _ c.draw_settings.result c.map-in-draw.result found
    (c.draw_settings.ensures.right (g.A.Application.meaning)) c.map-in-draw.ensures.cases

pub returns-in-keys-clause-right : goal.returns-in-keys-clause-right
returns-in-keys-clause-right g c =
    let rows : List Row = rows_of (found_of c.in-Some.options.now) in
    let found = found_is c.args.matches.now (codes "keys") rows (search (rules, c.in-keys.is, c.in-Some.ensures.name))
    c.in-Some.ensures.rows in
    right_alike (g.A.Opening.words.kinds) (g.A.Application.meaning) c.args.given.seed _ _ _ c.keys_settings.result c.map-in-keys.result found
    (c.keys_settings.ensures.right (g.A.Application.meaning)) c.map-in-keys.ensures.cases

pub returns-in_default-name-clause-right : goal.returns-in_default-name-clause-right
returns-in_default-name-clause-right g c =
    let rows : List Row = rows_of (found_of c.in-Some.options.now) in
    let found = found_is c.args.matches.now c.in-Some.name.now rows c.in-Some.ensures.name c.in-Some.ensures.rows in
    subst IsNoSubcommand (sym found) (
      c.in_default-name.not-sign,
      (
        c.in_default-name.not-deliver,
        (
          c.in_default-name.not-simulate,
          (c.in_default-name.not-cluster, (c.in_default-name.not-serve, (c.in_default-name.not-audit, (c.in_default-name.not-draw, c.in_default-name.not-keys)))),
        ),
      ),
    )

pub returns-in-sign-clause-unfit : goal.returns-in-sign-clause-unfit
returns-in-sign-clause-unfit g c =
    error_alike (IsUnfit (g.A.Opening.words.kinds) c.args.given.cluster) _ c.sign_settings.result c.map.result
    (unfit_result (g.A.Opening.words.kinds) (g.A.Application.meaning) c.args.given.seed c.args.given.cluster sign_options _ c.sign_settings.result (λ bad. absurd cc)
    (c.sign_settings.ensures.right (g.A.Application.meaning)))
    c.map.ensures.cases

pub returns-in-deliver-clause-unfit : goal.returns-in-deliver-clause-unfit
returns-in-deliver-clause-unfit g c =
    error_alike (IsUnfit (g.A.Opening.words.kinds) c.args.given.cluster) _ c.deliver_settings.result c.map-in-deliver.result
    (unfit_result (g.A.Opening.words.kinds) (g.A.Application.meaning) c.args.given.seed c.args.given.cluster deliver_options _ c.deliver_settings.result (λ bad. absurd cc)
    c.deliver_settings.ensures.right)
    c.map-in-deliver.ensures.cases

pub returns-in-simulate-clause-unfit : goal.returns-in-simulate-clause-unfit
returns-in-simulate-clause-unfit g c =
    error_alike (IsUnfit (g.A.Opening.words.kinds) c.args.given.cluster) _ c.simulate_settings.result c.map-in-simulate.result
    (unfit_result (g.A.Opening.words.kinds) (g.A.Application.meaning) c.args.given.seed c.args.given.cluster simulate_options _ c.simulate_settings.result (λ bad. absurd cc)
    (c.simulate_settings.ensures.right (g.A.Opening.words.kinds) (g.A.Application.meaning)))
    c.map-in-simulate.ensures.cases

pub returns-in-cluster-clause-unfit : goal.returns-in-cluster-clause-unfit
returns-in-cluster-clause-unfit g c =
    error_alike (IsUnfit (g.A.Opening.words.kinds) c.args.given.cluster) _ c.cluster_settings.result c.map-in-cluster.result
    (unfit_result (g.A.Opening.words.kinds) (g.A.Application.meaning) c.args.given.seed c.args.given.cluster running_options _ c.cluster_settings.result (λ bad. absurd cc)
    (c.cluster_settings.ensures.right running_options (has_running _ _ _ _)))
    c.map-in-cluster.ensures.cases

pub returns-in-serve-clause-unfit : goal.returns-in-serve-clause-unfit
returns-in-serve-clause-unfit g c =
    error_alike (IsUnfit (g.A.Opening.words.kinds) c.args.given.cluster) _ c.serve_settings.result c.map-in-serve.result
    (unfit_result (g.A.Opening.words.kinds) (g.A.Application.meaning) c.args.given.seed c.args.given.cluster serve_options _ c.serve_settings.result (λ bad. absurd cc)
    c.serve_settings.ensures.right)
    c.map-in-serve.ensures.cases

pub returns-in-keys-clause-unfit : goal.returns-in-keys-clause-unfit
returns-in-keys-clause-unfit g c =
    error_alike (IsUnfit (g.A.Opening.words.kinds) c.args.given.cluster) _ c.keys_settings.result c.map-in-keys.result
    (unfit_result (g.A.Opening.words.kinds) (g.A.Application.meaning) c.args.given.seed c.args.given.cluster keys_options _ c.keys_settings.result (λ bad. absurd cc)
    (c.keys_settings.ensures.right (g.A.Application.meaning)))
    c.map-in-keys.ensures.cases

pub returns-in-audit-clause-unfit : goal.returns-in-audit-clause-unfit
returns-in-audit-clause-unfit g c =
    error_alike (IsUnfit (g.A.Opening.words.kinds) c.args.given.cluster) _ c.audit_settings.result c.map-in-audit.result c.audit_settings.ensures.unfit
    c.map-in-audit.ensures.cases

pub returns-in-draw-clause-unfit : goal.returns-in-draw-clause-unfit
returns-in-draw-clause-unfit g c =
    error_alike (IsUnfit (g.A.Opening.words.kinds) c.args.given.cluster) _ c.draw_settings.result c.map-in-draw.result c.draw_settings.ensures.unfit
    c.map-in-draw.ensures.cases
