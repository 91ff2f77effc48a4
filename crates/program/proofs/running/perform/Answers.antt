use Rattle.std.proofs.Common.{◌∙◌}
use Rattle.byte_streams.proofs.Faults.{on_error}
use Rattle.program.proofs.RunningLemmas.{audit_explains, audited_done, draw_explains, drawn_done, published_done, published_halted}
use Rattle.program.proofs.RunningLemmas.{signed_done, signed_halted, delivered_done, delivered_halted, played_done, played_halted}
use Rattle.program.proofs.running.perform.Goals as goal

pub returns-in_err-sign-in-Sign-clause-done : goal.returns-in_err-sign-in-Sign-clause-done
returns-in_err-sign-in-Sign-clause-done g c =
    on_error _ _ c.from_residual.ensures.0
    (signed_halted (g.A.Opening.words.kinds) (g.A.Application.meaning) c.args.settings.now c.in-Sign.settings _ _ _ c.in-Sign.is
    c.in_err-sign-in-Sign.ensures.written)

pub returns-in_ok-sign-in-Sign-clause-done : goal.returns-in_ok-sign-in-Sign-clause-done
returns-in_ok-sign-in-Sign-clause-done g c = signed_done (g.A.Opening.words.kinds) (g.A.Application.meaning) c.args.settings.now c.in-Sign.settings
    c.plain.result.status _ _ _ c.in-Sign.is
    c.plain.ensures.status
    c.in_ok-sign-in-Sign.ensures.written

pub returns-in_err-end-in-Deliver-clause-done : goal.returns-in_err-end-in-Deliver-clause-done
returns-in_err-end-in-Deliver-clause-done g c =
    on_error _ _ c.from_residual-in_err-end-in-Deliver.ensures.0
    (delivered_halted (g.A.Opening.words.kinds) (g.A.Application.meaning) c.args.settings.now c.in-Deliver.settings _ _ _ _ c.in-Deliver.is
    c.in_err-end-in-Deliver.ensures.delivers)

pub returns-in_ok-end-in-Deliver-clause-done : goal.returns-in_ok-end-in-Deliver-clause-done
returns-in_ok-end-in-Deliver-clause-done g c =
    delivered_done (g.A.Opening.words.kinds) (g.A.Application.meaning) c.args.settings.now c.in-Deliver.settings c.in_ok-end-in-Deliver.end _ _ _ _ _ c.in-Deliver.is
    (c.plain-in-Deliver.ensures.status ∙ c.stream_status.ensures)
    c.in_ok-end-in-Deliver.ensures.delivers

pub returns-in_err-end-in-Simulate-clause-done : goal.returns-in_err-end-in-Simulate-clause-done
returns-in_err-end-in-Simulate-clause-done g c =
    on_error _ _ c.from_residual-in_err-end-in-Simulate.ensures.0
    (played_halted (g.A.Opening.words.kinds) (g.A.Application.meaning) c.args.settings.now c.in-Simulate.settings _ _ _ _ c.in-Simulate.is
    c.in_err-end-in-Simulate.ensures.plays)

pub returns-in_ok-end-in-Simulate-clause-done : goal.returns-in_ok-end-in-Simulate-clause-done
returns-in_ok-end-in-Simulate-clause-done g c =
    played_done (g.A.Opening.words.kinds) (g.A.Application.meaning) c.args.settings.now c.in-Simulate.settings c.in_ok-end-in-Simulate.end _ _ _ _ _ c.in-Simulate.is
    (c.plain-in-Simulate.ensures.status ∙ c.text_status.ensures)
    c.in_ok-end-in-Simulate.ensures.plays

pub returns-in-Audit-clause-done : goal.returns-in-Audit-clause-done
returns-in-Audit-clause-done g c =
    audited_done (g.A.Opening.words.kinds) (g.A.Application.meaning) c.args.settings.now c.in-Audit.settings c.audit.result _ _ _ _ c.in-Audit.is
    c.audit.ensures.audits

pub returns-in-Audit-clause-explains : goal.returns-in-Audit-clause-explains
returns-in-Audit-clause-explains g c = audit_explains c.args.settings.now c.in-Audit.settings c.audit.result c.in-Audit.is
    c.audit.ensures.explains

pub returns-in-Draw-clause-done : goal.returns-in-Draw-clause-done
returns-in-Draw-clause-done g c = drawn_done (g.A.Opening.words.kinds) (g.A.Application.meaning) c.args.settings.now c.in-Draw.settings c.draw.result _ _ _ _
    c.in-Draw.is c.draw.ensures.draws

pub returns-in-Draw-clause-explains : goal.returns-in-Draw-clause-explains
returns-in-Draw-clause-explains g c = draw_explains c.args.settings.now c.in-Draw.settings c.draw.result c.in-Draw.is
    c.draw.ensures.explains

pub returns-in_err-publish-in-Keys-clause-done : goal.returns-in_err-publish-in-Keys-clause-done
returns-in_err-publish-in-Keys-clause-done g c =
    on_error _ _ c.from_residual-in_err-publish-in-Keys.ensures.0
    (published_halted (g.A.Opening.words.kinds) (g.A.Application.meaning) c.args.settings.now c.in-Keys.cluster _ _ _ c.in-Keys.is
    c.in_err-publish-in-Keys.ensures.written)

pub returns-in_ok-publish-in-Keys-clause-done : goal.returns-in_ok-publish-in-Keys-clause-done
returns-in_ok-publish-in-Keys-clause-done g c =
    published_done (g.A.Opening.words.kinds) (g.A.Application.meaning) c.args.settings.now c.in-Keys.cluster c.plain-in-Keys.result.status _ _ _ c.in-Keys.is
    c.plain-in-Keys.ensures.status
    c.in_ok-publish-in-Keys.ensures.written
