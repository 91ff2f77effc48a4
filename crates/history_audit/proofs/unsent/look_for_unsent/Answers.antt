use Rattle.std.proofs.Common.{ℕ, ◌<◌, sym, subst}
use Rattle.std.specs.Prelude.{Some}
use Rattle.ledger_model.specs.Audits.{IsUnsent}
use Rattle.history_audit.specs.Searches.{AnswersReader}
use Rattle.history_audit.proofs.Searching.{is_first, none_at_all}
use Rattle.history_audit.proofs.unsent.look_for_unsent.Goals as goal

pub returns : goal.returns
returns c =
    none_at_all c.args.config.now c.args.histories.now c.loop-number.number c.requires.count c.loop-number-test.false
    c.loop-number.invariant

pub returns-in-Some : goal.returns-in-Some
returns-in-Some c =
    let r = c.new-reader.result in
    let found : AnswersReader c.args.histories.now r (Some c.in-Some.at) =
    subst (AnswersReader c.args.histories.now r) c.in-Some.is c.in_ok-at.ensures in
    is_first c.args.histories.now r c.in-Some.at.index c.in-Some.at.signer (found.0) (found.1.0)
    (subst (λ n. (q j y : ℕ) → q < n → IsUnsent c.args.histories.now q j y → ⊥) (sym c.new-reader.ensures) c.loop-number.invariant)
    (found.1.1)
