use Rattle.std.proofs.Common.{◌≡◌, ◌+◌, true, rules, sym, subst, ◌∙◌}
use Rattle.std.specs.Prelude.{Some}
use Rattle.ledger_model.specs.Rules.{is_signed}
use Rattle.instance.specs.Matching.{MatchesLog}
use Rattle.instance.specs.Laws.{MayBeSent, MayClose, opened_by}
use Rattle.instance.specs.declared.round_statement.RoundStatement.TheVariants as made
use Rattle.agreement_tests.proofs.callers.closes_with.Goals as goal

pub returns-clause-follows : goal.returns-clause-follows
returns-clause-follows c = λ yes log matches clock.
    let row = c.args.instance.now in
    let round = c.args.clock + 1 in
    let allowed : c.may_make.result ≡ true = search rules in
    let may : MayBeSent row log round (Some c.args.frame.statement) =
    subst (λ s. MayBeSent row log round (Some s)) c.statement.ensures.statement
    (c.may_make.ensures.may c.args.ring.now log matches clock allowed) in
    let verified : c.is_signed.result ≡ true = search rules in
    let signed : is_signed c.args.ring.now c.args.frame ≡ true = sym c.is_signed.ensures ∙ verified in
    subst (λ f. MatchesLog c.args.ring.now c.close.new.self (opened_by row log round (made.Sent f))) c.in_ok-new.ensures
    (c.close.ensures.matches c.args.ring.now log matches clock
    (subst (λ f. MayClose row log round (made.Sent f)) (sym c.in_ok-new.ensures) may)
    (subst (λ f. is_signed c.args.ring.now f ≡ true) (sym c.in_ok-new.ensures) signed))
