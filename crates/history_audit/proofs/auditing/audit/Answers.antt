use Rattle.std.proofs.Common.{inr, sym, ◌∙◌}
use Rattle.std.specs.Prelude.{Err}
use Rattle.ledger_laws.proofs.Audits.{quorum_fits}
use Rattle.history_audit.specs.declared.fault.AuditFault.TheVariants as fault
use Rattle.history_audit.proofs.Findings.{ledger_found, count_found, only_found}
use Rattle.history_audit.proofs.auditing.audit.Goals as goal

pub returns-then-not-are_of_a_quorum-clause-only : goal.returns-then-not-are_of_a_quorum-clause-only
returns-then-not-are_of_a_quorum-clause-only g c =
    only_found (g.A.Application.meaning) c.args.config.now c.args.ring.now c.args.histories.now (Err fault.Count)
    (inr (sym c.are_of_a_quorum.ensures ∙ c.if-not-are_of_a_quorum.true))

pub audit_quorum-requires-clause-enough : goal.audit_quorum-requires-clause-enough
audit_quorum-requires-clause-enough g c = c.requires.enough
    (quorum_fits c.args.config.now c.args.histories.now (sym c.are_of_a_quorum.ensures ∙ c.if-not-are_of_a_quorum.false))

pub returns-clause-ledger : goal.returns-clause-ledger
returns-clause-ledger g c = ledger_found (g.A.Application.meaning) c.args.config.now c.args.ring.now c.args.histories.now
    c.audit_quorum.result c.audit_quorum.ensures

pub returns-clause-count : goal.returns-clause-count
returns-clause-count g c =
    count_found (g.A.Application.meaning) c.args.config.now c.args.ring.now c.args.histories.now c.audit_quorum.result
    (sym c.are_of_a_quorum.ensures ∙ c.if-not-are_of_a_quorum.false) c.audit_quorum.ensures

pub returns-clause-only : goal.returns-clause-only
returns-clause-only g c = only_found (g.A.Application.meaning) c.args.config.now c.args.ring.now c.args.histories.now c.audit_quorum.result
    c.audit_quorum.ensures
