use Rattle.std.proofs.Common.{◌≡◌, ◌≤◌, ◌<◌, ap, subst, sym, ◌∙◌, rules}
use Rattle.std.specs.Prelude.{None}
use Rattle.std.specs.Option.{option_copied}
use Rattle.ledger_model.specs.Notes.{signer_of}
use Rattle.ledger_model.specs.Logs.{height_of}
use Rattle.height_row.specs.Heights.{row_at}
use Rattle.replica_core.specs.Replays.{ReplayView}
use Rattle.replica_core.proofs.Delivers.{stranger, unopened}
use Rattle.replica_core.proofs.Placing.{stranger_before, unopened_before}
use Rattle.replica_core.proofs.replay.Replay.find_place.Goals as goal

-- src/delivering.rt:29:13
pub returns-then-number-self-clause-step : goal.returns-then-number-self-clause-step
returns-then-number-self-clause-step g c = λ bytes is.
    stranger (g.A.Application.meaning) c.args.self.now bytes c.args.frame.now is
    (subst (λ (x : ReplayView). x.config.replicas ≤ signer_of c.args.frame.now.statement) c.self.view_is
    (subst (λ n. c.self.inside.config.replicas ≤ n)
    (c.number.ensures ∙ c.signer.ensures ∙ ap signer_of c.statement-statement.ensures.statement) c.if-number-self.true))

-- src/delivering.rt:21:5
pub returns-in-None-clause-step : goal.returns-in-None-clause-step
returns-in-None-clause-step g c = λ bytes is.
    unopened (g.A.Application.meaning) c.args.self.now bytes c.args.frame.now is
    (subst (λ (x : ReplayView). signer_of c.args.frame.now.statement < x.config.replicas) c.self.view_is
    (subst (λ n. n < c.self.inside.config.replicas)
    (c.number.ensures ∙ c.signer.ensures ∙ ap signer_of c.statement-statement.ensures.statement) c.if-number-self.false))
    (subst (λ (x : ReplayView). row_at x.rows (height_of c.args.frame.now.statement) ≡ None) c.self.view_is
    (ap (row_at c.self.inside.rows.rows) (sym (c.height.ensures ∙ ap height_of c.statement-statement.ensures.statement))
    ∙ sym c.get.ensures.row ∙ ap option_copied c.in-None.is))

pub returns-in-Some-clause-step : goal.returns-in-Some-clause-step
returns-in-Some-clause-step g c = search rules

pub returns-then-number-self-clause-cause : goal.returns-then-number-self-clause-cause
returns-then-number-self-clause-cause g c = λ entries matches.
    stranger_before (g.A.Application.meaning) c.args.self.now c.args.frame.now.statement entries
    (subst (λ (x : ReplayView). x.config.replicas ≤ signer_of c.args.frame.now.statement) c.self.view_is
    (subst (λ n. c.self.inside.config.replicas ≤ n)
    (c.number.ensures ∙ c.signer.ensures ∙ ap signer_of c.statement-statement.ensures.statement) c.if-number-self.true))

pub returns-in-None-clause-cause : goal.returns-in-None-clause-cause
returns-in-None-clause-cause g c = λ entries matches.
    unopened_before (g.A.Application.meaning) c.args.self.now c.args.frame.now.statement entries matches
    (subst (λ (x : ReplayView). signer_of c.args.frame.now.statement < x.config.replicas) c.self.view_is
    (subst (λ n. n < c.self.inside.config.replicas)
    (c.number.ensures ∙ c.signer.ensures ∙ ap signer_of c.statement-statement.ensures.statement) c.if-number-self.false))
    (subst (λ (x : ReplayView). row_at x.rows (height_of c.args.frame.now.statement) ≡ None) c.self.view_is
    (ap (row_at c.self.inside.rows.rows) (sym (c.height.ensures ∙ ap height_of c.statement-statement.ensures.statement))
    ∙ sym c.get.ensures.row ∙ ap option_copied c.in-None.is))
