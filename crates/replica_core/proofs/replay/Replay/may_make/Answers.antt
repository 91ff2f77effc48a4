use Rattle.std.proofs.Common.{◌≡◌, ◌+◌, ap, sym, subst, ◌∙◌}
use Rattle.std.specs.Prelude.{Some}
use Rattle.ledger_model.specs.declared.statement.SignedStatement.{SignedStatement}
use Rattle.ledger_model.specs.declared.statement.Statement.{Statement}
use Rattle.ledger_model.specs.Rules.{is_signed}
use Rattle.ledger_model.specs.Spelling.{IsFrame}
use Rattle.instance.specs.Laws.{MayBeSent}
use Rattle.replica_core.specs.Replays.{ReplayView}
use Rattle.replica_core.proofs.JudgedMades.{unsent_made, unsent_may, sent_made, sent_may}
use Rattle.replica_core.proofs.replay.Replay.may_make.Goals as goal

-- nothing is sent
pub returns-in-Unsent-clause-may : goal.returns-in-Unsent-clause-may
returns-in-Unsent-clause-may g c = rw (sym c.self.view_is, c.in-Unsent.is)
    (λ log old now yes. unsent_made c.self.inside.verifier.ring c.args.instance.now log c.self.inside.clock old now
    (c.may_make.ensures.may c.self.inside.verifier.ring log old now yes))

pub returns-in-Unsent-clause-only : goal.returns-in-Unsent-clause-only
returns-in-Unsent-clause-only g c = rw (sym c.self.view_is, c.in-Unsent.is)
    (λ log old now is. c.may_make.ensures.only c.self.inside.verifier.ring log old now
    (unsent_may c.self.inside.verifier.ring c.args.instance.now log c.self.inside.clock old now is))

-- a statement is sent
pub returns-then-may_make-clause-may : goal.returns-then-may_make-clause-may
returns-then-may_make-clause-may g c =
    let statement : c.statement.result.now ≡ c.in-Sent.own.statement =
    c.statement.ensures.statement ∙ ap (λ (f : SignedStatement). f.statement) c.frame-frame.ensures in
    let signed = c.is_signed.ensures ∙ ap (λ (x : ReplayView). is_signed x.ring c.frame-frame.result.now) (sym c.self.view_is)
    ∙ ap (is_signed c.self.inside.verifier.ring) c.frame-frame.ensures in
    let frame : IsFrame c.in-Sent.own = subst IsFrame c.frame-frame.ensures c.statement.ensures.frame in
    rw (sym c.self.view_is, c.in-Sent.is)
    (λ log old now yes.
    sent_made c.self.inside.verifier.ring c.args.instance.now log c.self.inside.clock old now c.in-Sent.own
    (subst (λ (s : Statement). MayBeSent c.args.instance.now log (c.self.inside.clock + 1) (Some s)) statement
    (c.may_make-in-Sent.ensures.may c.self.inside.verifier.ring log old now c.if-may_make.true))
    (sym signed ∙ yes)
    frame)

pub returns-then-may_make-clause-only : goal.returns-then-may_make-clause-only
returns-then-may_make-clause-only g c =
    let signed = c.is_signed.ensures ∙ ap (λ (x : ReplayView). is_signed x.ring c.frame-frame.result.now) (sym c.self.view_is)
    ∙ ap (is_signed c.self.inside.verifier.ring) c.frame-frame.ensures in
    rw (sym c.self.view_is, c.in-Sent.is) (λ log old now is. signed ∙ is.signed)

pub returns-else-may_make-clause-only : goal.returns-else-may_make-clause-only
returns-else-may_make-clause-only g c =
    let statement : c.statement.result.now ≡ c.in-Sent.own.statement =
    c.statement.ensures.statement ∙ ap (λ (f : SignedStatement). f.statement) c.frame-frame.ensures in
    rw (sym c.self.view_is, c.in-Sent.is)
    (λ log old now is.
    c.may_make-in-Sent.ensures.only c.self.inside.verifier.ring log old now
    (subst (λ (s : Statement). MayBeSent c.args.instance.now log (c.self.inside.clock + 1) (Some s)) (sym statement)
    (sent_may c.self.inside.verifier.ring c.args.instance.now log c.self.inside.clock old now c.in-Sent.own is)))
