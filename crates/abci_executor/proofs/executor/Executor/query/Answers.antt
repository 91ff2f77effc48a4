-- The height in the answer is the committed one, and a fault is the application's.
use Rattle.std.proofs.Common.{◌≡◌, sym, ap, subst, ◌∙◌, rules}
use Rattle.std.specs.Prelude.{Result, Ok, Err, IfSome}
use Rattle.ledger_model.specs.declared.reply.QueryAnswer.{QueryAnswer}
use Rattle.ledger_model.specs.Applications.{Machine}
use Rattle.abci.specs.declared.info.QueryFault.{QueryFault}
use Rattle.abci.specs.Meaning.{without_work, AnswersTo}
use Rattle.abci_executor.specs.Blocks.{IsQueryReply, query_answer_of}
use Rattle.abci_executor.proofs.Replying.{replies_held, replies_fault}
use Rattle.abci_executor.proofs.executor.Executor.query.Goals as goal

pub returns-clause-reply : goal.returns-clause-reply
returns-clause-reply g c =
    let m : Machine = g.A.Application.machine c.self.inside.app in
    let last = c.new.ensures ∙ c.height.ensures.height ∙ sym (ap (λ (n : Machine). n.height) c.self.view_is) in
    let held = subst (AnswersTo (g.A.Application.meaning) m c.args.key.now)
    (sym c.in_ok-shared.ensures.bytes) c.in_ok-held.ensures.answer in
    subst (λ (n : Machine). IsQueryReply (g.A.Application.meaning) n c.args.key.now c.args.height
    (Ok (record { height = c.new.result; value = c.in_ok-shared.field-0 })))
    c.self.view_is
    (replies_held (g.A.Application.meaning) m c.args.key.now c.args.height c.new.result c.in_ok-shared.field-0 held (λ other. let no =
    c.in_ok-held.ensures.not_held.1 other in absurd cc) last)

pub returns-in_err-held-clause-reply : goal.returns-in_err-held-clause-reply
returns-in_err-held-clause-reply g c =
    let m : Machine = g.A.Application.machine c.self.inside.app in
    let told : c.from_residual.result ≡ Err c.in_err-held.field-0.0 = search rules in
    subst (λ (n : Machine). IfSome (query_answer_of c.from_residual.result)
    (IsQueryReply (g.A.Application.meaning) n c.args.key.now c.args.height)) c.self.view_is
    (subst (λ (r : Result QueryAnswer QueryFault). IfSome (query_answer_of r)
    (IsQueryReply (g.A.Application.meaning) (without_work m) c.args.key.now c.args.height)) (sym told)
    (replies_fault (g.A.Application.meaning) m c.args.key.now c.args.height c.in_err-held.field-0.0
    (λ is. c.in_err-held.ensures.not_held.0 (ap Err is))))
