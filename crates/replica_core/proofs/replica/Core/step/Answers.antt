use Rattle.std.proofs.Common.{ap, rules, sym, ◌∙◌}
use Rattle.ledger_model.specs.Replies.{query_reply}
use Rattle.replica_core.proofs.Submits.{submits, queries}
use Rattle.replica_core.proofs.Proposes.{proposes}
use Rattle.replica_core.proofs.Executes.{executes}
use Rattle.replica_core.proofs.Retires.{retires}
use Rattle.replica_core.proofs.replica.Core.step.Goals as goal

-- src/replica.rt:66:5
pub returns-in_ok-submit-in-Submit-clause-step : goal.returns-in_ok-submit-in-Submit-clause-step
returns-in_ok-submit-in-Submit-clause-step g c =
    rw (sym c.self.view_is, c.in-Submit.is, c.in_ok-submit-in-Submit.ensures.after, sym c.deref.ensures)
    (submits (g.A.Application.meaning) c.self.inside.replay c.deref.result.now c.in_ok-submit-in-Submit.field-0
    c.in_ok-submit-in-Submit.ensures.answer)

-- src/replica.rt:66:5
pub returns-in_ok-propose-in-Propose-clause-step : goal.returns-in_ok-propose-in-Propose-clause-step
returns-in_ok-propose-in-Propose-clause-step g c = rw (sym c.self-in-Propose.view_is, c.in-Propose.is)
    (proposes (g.A.Application.meaning) c.self-in-Propose.inside.replay c.propose.new.self c.in-Propose.height
    c.in_ok-propose-in-Propose.field-0
    c.in_ok-propose-in-Propose.ensures.answer c.in_ok-propose-in-Propose.ensures.rest c.in_ok-propose-in-Propose.ensures.refused
    c.in_ok-propose-in-Propose.ensures.there c.in_ok-propose-in-Propose.ensures.apart c.in_ok-propose-in-Propose.ensures.opened)

-- src/replica.rt:66:5
pub returns-in_ok-execute-in-Execute-clause-step : goal.returns-in_ok-execute-in-Execute-clause-step
returns-in_ok-execute-in-Execute-clause-step g c =
    rw (sym c.self-in-Execute.view_is, c.in-Execute.is, c.in_ok-execute-in-Execute.ensures.after)
    (executes (g.A.Application.meaning) c.self-in-Execute.inside.replay c.in_ok-execute-in-Execute.field-0
    c.in_ok-execute-in-Execute.ensures.one
    c.in_ok-execute-in-Execute.ensures.answer)

-- src/replica.rt:66:5
pub returns-in_ok-query-in-Query-clause-step : goal.returns-in_ok-query-in-Query-clause-step
returns-in_ok-query-in-Query-clause-step g c = rw (sym c.self-in-Query.view_is, c.in-Query.is)
    (queries (g.A.Application.meaning) c.self-in-Query.inside.replay c.in-Query.key c.in-Query.height c.in_ok-query-in-Query.field-0
    (c.in_ok-query-in-Query.ensures
    ∙ ap (λ key. query_reply (g.A.Application.meaning) c.self-in-Query.inside.replay.config.kind c.self-in-Query.inside.replay.commits key
    c.number.result)
    c.as_bytes.ensures
    ∙ ap (query_reply (g.A.Application.meaning) c.self-in-Query.inside.replay.config.kind c.self-in-Query.inside.replay.commits
    c.in-Query.key) c.number.ensures))

pub returns-in_ok-query-in-Query-clause-leaves : goal.returns-in_ok-query-in-Query-clause-leaves
returns-in_ok-query-in-Query-clause-leaves g c = search rules

pub returns-in_ok-query-in-Query-clause-most : goal.returns-in_ok-query-in-Query-clause-most
returns-in_ok-query-in-Query-clause-most g c = search rules

pub returns-in_err-query-in-Query-clause-most : goal.returns-in_err-query-in-Query-clause-most
returns-in_err-query-in-Query-clause-most g c = search rules

pub returns-in-Retire-clause-step : goal.returns-in-Retire-clause-step
returns-in-Retire-clause-step g c = rw (sym c.self-in-Retire.view_is, c.in-Retire.is)
    (retires (g.A.Application.meaning) c.self-in-Retire.inside.replay c.retire.new.self c.in-Retire.floor c.retire.result
    c.retire.ensures.answer
    c.retire.ensures.after)
