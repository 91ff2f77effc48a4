use Rattle.std.proofs.Common.{inr, subst}
use Rattle.std.specs.Prelude.{Err}
use Rattle.std.proofs.lemmas.List.Elements.{recursion_from_All}
use Rattle.std.proofs.lemmas.Result.{err_from_is_err_and}
use Rattle.ledger_model.specs.Audits.{AreReplays}
use Rattle.history_audit.specs.Followed.{FollowsAll}
use Rattle.history_audit.proofs.Replaying.{ledger_of}
use Rattle.history_audit.proofs.Findings.{broken_found, unsent_found}
use Rattle.history_audit.proofs.auditing.audit_quorum.Goals as goal

pub follow_all-requires-clause-opening : goal.follow_all-requires-clause-opening
follow_all-requires-clause-opening g c = recursion_from_All _ c.args.apps.items c.requires.opening

pub returns-in_err-ledger : goal.returns-in_err-ledger
returns-in_err-ledger g c =
    let ring_is = c.in_ok-verifier.ensures in
    let is = subst (λ r. FollowsAll (g.A.Application.meaning) c.args.config.now r c.args.histories.now (Err c.in_err-ledger.field-0.0))
    ring_is
    c.in_err-ledger.ensures in
    let p = err_from_is_err_and c.from_residual-in_err-ledger.result c.from_residual-in_err-ledger.ensures.1 in
    rw (p.1, p.2) (broken_found (g.A.Application.meaning) c.args.config.now c.args.ring.now c.args.histories.now c.in_err-ledger.field-0.0
    c.requires.count is)

pub returns-in_err-look_for_unsent : goal.returns-in_err-look_for_unsent
returns-in_err-look_for_unsent g c =
    let config = c.args.config.now in
    let histories = c.args.histories.now in
    let ring_is = c.in_ok-verifier.ensures in
    let replays = subst (λ r. AreReplays (g.A.Application.meaning) config r histories) ring_is (c.in_ok-ledger.ensures.0) in
    let p = err_from_is_err_and c.from_residual-in_err-look_for_unsent.result c.from_residual-in_err-look_for_unsent.ensures.1 in
    rw (p.1, p.2) (unsent_found (g.A.Application.meaning) config c.args.ring.now histories c.in_err-look_for_unsent.field-0.0
    c.requires.count replays
    c.in_err-look_for_unsent.ensures)

pub returns : goal.returns
returns g c =
    let config = c.args.config.now in
    let histories = c.args.histories.now in
    let ring_is = c.in_ok-verifier.ensures in
    let replays = subst (λ r. AreReplays (g.A.Application.meaning) config r histories) ring_is (c.in_ok-ledger.ensures.0) in
    let sent = c.in_ok-look_for_unsent.ensures in
    inr (
      c.requires.count,
      (
        replays,
        (
          sent,
          ledger_of (g.A.Application.meaning) config c.args.ring.now histories c.in_ok-ledger.ledger c.requires.count replays sent
              (c.in_ok-ledger.ensures.1),
        ),
      ),
    )
