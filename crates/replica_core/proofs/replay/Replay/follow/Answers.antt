use Rattle.std.proofs.Common.{ℕ, List, ap, subst, ◌∙◌}
use Rattle.ledger_model.specs.declared.event.Event.TheVariants as event
use Rattle.ledger_model.specs.declared.reply.Reply.TheVariants as reply
use Rattle.ledger_model.specs.Replies.{query_reply}
use Rattle.replica_core.specs.Replays.{ReplayView}
use Rattle.replica_core.specs.Steps.{next_decided}
use Rattle.replica_core.specs.Following.{IsFollowed}
use Rattle.replica_core.proofs.Followed.{refused, same_rows, same_run, submitted_only, proposed_only, delivered_only, ended_only}
use Rattle.replica_core.proofs.Followed.{executed_only, queried_only, retired_only, same_retired}
use Rattle.replica_core.proofs.EventsFollowed.{submit_followed, propose_followed, deliver_followed, execute_followed, query_followed}
use Rattle.replica_core.proofs.EventsFollowed.{retire_followed}
use Rattle.replica_core.proofs.replay.Replay.follow.Goals as goal

-- a transaction is handed in
pub returns-in_ok-submit-in-Submit-Submitted-clause-followed : goal.returns-in_ok-submit-in-Submit-Submitted-clause-followed
returns-in_ok-submit-in-Submit-Submitted-clause-followed g c =
    let done = c.in_ok-submit-in-Submit-Submitted in
    rw (c.in-Submit-Submitted.is-0, c.in-Submit-Submitted.is-1)
    (subst (λ (tx : List ℕ). IsFollowed (g.A.Application.meaning) c.args.self.now (event.Submit tx)
    (reply.Submitted c.in-Submit-Submitted.shown)
    c.is_same_submitted.result c.submit.new.self) c.deref.ensures
    (submit_followed (g.A.Application.meaning) c.args.self.now c.submit.new.self c.deref.result.now done.field-0 c.in-Submit-Submitted.shown
    c.is_same_submitted.result c.is_same_submitted.ensures done.ensures.answer done.ensures.after))

-- a height is opened
pub returns-in_ok-propose-in-Propose-Proposed-clause-followed : goal.returns-in_ok-propose-in-Propose-Proposed-clause-followed
returns-in_ok-propose-in-Propose-Proposed-clause-followed g c =
    let done = c.in_ok-propose-in-Propose-Proposed in
    rw (c.in-Propose-Proposed.is-0, c.in-Propose-Proposed.is-1)
    (propose_followed (g.A.Application.meaning) c.args.self.now c.propose.new.self c.in-Propose-Proposed.height done.field-0
    c.in-Propose-Proposed.shown
    c.is_same_proposed.result c.is_same_proposed.ensures
    done.ensures.answer done.ensures.rest done.ensures.refused done.ensures.there done.ensures.apart done.ensures.opened)

pub returns-in_ok-propose-in-Propose-Proposed-clause-same : goal.returns-in_ok-propose-in-Propose-Proposed-clause-same
returns-in_ok-propose-in-Propose-Proposed-clause-same g c = same_rows c.args.self.now c.propose.new.self c.propose.ensures.rest

-- bytes come
pub returns-in_ok-deliver-in-Deliver-Delivered-clause-followed : goal.returns-in_ok-deliver-in-Deliver-Delivered-clause-followed
returns-in_ok-deliver-in-Deliver-Delivered-clause-followed g c =
    let done = c.in_ok-deliver-in-Deliver-Delivered in
    rw (c.in-Deliver-Delivered.is-0, c.in-Deliver-Delivered.is-1)
    (deliver_followed (g.A.Application.meaning) c.args.self.now c.deliver.new.self c.in-Deliver-Delivered.bytes done.field-0
    c.in-Deliver-Delivered.shown
    c.is_same_delivered.result c.is_same_delivered.ensures done.ensures.step)

pub returns-in_ok-deliver-in-Deliver-Delivered-clause-same : goal.returns-in_ok-deliver-in-Deliver-Delivered-clause-same
returns-in_ok-deliver-in-Deliver-Delivered-clause-same g c = same_rows c.args.self.now c.deliver.new.self c.deliver.ensures.rest

-- the next block is run
pub returns-in_ok-execute-in-Execute-Executed-clause-followed : goal.returns-in_ok-execute-in-Execute-Executed-clause-followed
returns-in_ok-execute-in-Execute-Executed-clause-followed g c =
    let done = c.in_ok-execute-in-Execute-Executed in
    rw (c.in-Execute-Executed.is-0, c.in-Execute-Executed.is-1)
    (execute_followed (g.A.Application.meaning) c.args.self.now c.execute.new.self done.field-0 c.in-Execute-Executed.shown
    c.is_same_executed.result
    c.is_same_executed.ensures done.ensures.one done.ensures.answer done.ensures.after)

pub returns-in_ok-execute-in-Execute-Executed-clause-same : goal.returns-in_ok-execute-in-Execute-Executed-clause-same
returns-in_ok-execute-in-Execute-Executed-clause-same g c =
    same_run (g.A.Application.meaning) c.args.self.now c.execute.new.self
    (next_decided c.args.self.now) c.in_ok-execute-in-Execute-Executed.ensures.after

-- the application is asked
pub returns-in_ok-due-in-Query-Queried-clause-followed : goal.returns-in_ok-due-in-Query-Queried-clause-followed
returns-in_ok-due-in-Query-Queried-clause-followed g c =
    rw (c.in-Query-Queried.is-0, c.in-Query-Queried.is-1)
    (query_followed (g.A.Application.meaning) c.args.self.now c.in-Query-Queried.key c.in-Query-Queried.height
    c.in_ok-due-in-Query-Queried.due
    c.in-Query-Queried.shown c.is_same_queried.result c.is_same_queried.ensures
    (c.in_ok-due-in-Query-Queried.ensures
    ∙ ap (λ key. query_reply (g.A.Application.meaning) c.args.self.now.config.kind c.args.self.now.commits key c.number.result)
    c.as_bytes.ensures
    ∙ ap (query_reply (g.A.Application.meaning) c.args.self.now.config.kind c.args.self.now.commits c.in-Query-Queried.key)
    c.number.ensures))

-- a round ends
pub returns-in-RoundEnd-RoundEnded-clause-followed : goal.returns-in-RoundEnd-RoundEnded-clause-followed
returns-in-RoundEnd-RoundEnded-clause-followed g c =
    rw (c.in-RoundEnd-RoundEnded.is-0, c.in-RoundEnd-RoundEnded.is-1) c.follow_end.ensures.followed

-- the reply is one to another event
pub returns-in_default-clause-followed : goal.returns-in_default-clause-followed
returns-in_default-clause-followed g c =
    let held : ReplayView = c.args.self.now in
    rw c.in_default.is-0 (refused (g.A.Application.meaning) held held (event.Submit c.in_default.field-0-0) c.args.reply.now
    (λ entries matches keeps. submitted_only (g.A.Application.meaning) held entries c.in_default.field-0-0 c.args.reply.now
    c.in_default.not-Submitted-1
    keeps.lawful))

pub returns-in_default-2-clause-followed : goal.returns-in_default-2-clause-followed
returns-in_default-2-clause-followed g c =
    let held : ReplayView = c.args.self.now in
    rw c.in_default.is-0 (refused (g.A.Application.meaning) held held (event.Propose c.in_default.field-0-0) c.args.reply.now
    (λ entries matches keeps. proposed_only (g.A.Application.meaning) held entries c.in_default.field-0-0 c.args.reply.now
    c.in_default.not-Proposed-1 keeps.lawful))

pub returns-in_default-3-clause-followed : goal.returns-in_default-3-clause-followed
returns-in_default-3-clause-followed g c =
    let held : ReplayView = c.args.self.now in
    rw c.in_default.is-0 (refused (g.A.Application.meaning) held held (event.Deliver c.in_default.field-0-0) c.args.reply.now
    (λ entries matches keeps. delivered_only (g.A.Application.meaning) held entries c.in_default.field-0-0 c.args.reply.now
    c.in_default.not-Delivered-1
    keeps.lawful))

pub returns-in_default-4-clause-followed : goal.returns-in_default-4-clause-followed
returns-in_default-4-clause-followed g c =
    let held : ReplayView = c.args.self.now in
    rw c.in_default.is-0 (refused (g.A.Application.meaning) held held event.RoundEnd c.args.reply.now
    (λ entries matches keeps. ended_only (g.A.Application.meaning) held entries c.args.reply.now c.in_default.not-RoundEnded-1
    keeps.lawful))

pub returns-in_default-5-clause-followed : goal.returns-in_default-5-clause-followed
returns-in_default-5-clause-followed g c =
    let held : ReplayView = c.args.self.now in
    rw c.in_default.is-0 (refused (g.A.Application.meaning) held held event.Execute c.args.reply.now
    (λ entries matches keeps. executed_only (g.A.Application.meaning) held entries c.args.reply.now c.in_default.not-Executed-1
    keeps.lawful))

pub returns-in_default-6-clause-followed : goal.returns-in_default-6-clause-followed
returns-in_default-6-clause-followed g c =
    let held : ReplayView = c.args.self.now in
    rw c.in_default.is-0 (refused (g.A.Application.meaning) held held
    (event.Query c.in_default.field-0-0 c.in_default.field-1-0) c.args.reply.now
    (λ entries matches keeps. queried_only (g.A.Application.meaning) held entries c.in_default.field-0-0 c.in_default.field-1-0
    c.args.reply.now
    c.in_default.not-Queried-1 keeps.lawful))

pub returns-in_default-7-clause-followed : goal.returns-in_default-7-clause-followed
returns-in_default-7-clause-followed g c =
    let held : ReplayView = c.args.self.now in
    rw c.in_default.is-0 (refused (g.A.Application.meaning) held held (event.Retire c.in_default.field-0-0) c.args.reply.now
    (λ entries matches keeps. retired_only (g.A.Application.meaning) held entries c.in_default.field-0-0 c.args.reply.now
    c.in_default.not-Retired-1
    keeps.lawful))

-- heights are given up
pub returns-in-Retire-Retired-clause-followed : goal.returns-in-Retire-Retired-clause-followed
returns-in-Retire-Retired-clause-followed g c =
    rw (c.in-Retire-Retired.is-0, c.in-Retire-Retired.is-1)
    (retire_followed (g.A.Application.meaning) c.args.self.now c.retire.new.self c.in-Retire-Retired.floor c.retire.result
    c.in-Retire-Retired.shown
    c.is_same_retired.result c.is_same_retired.ensures c.retire.ensures.answer c.retire.ensures.after)

pub returns-in-Retire-Retired-clause-same : goal.returns-in-Retire-Retired-clause-same
returns-in-Retire-Retired-clause-same g c = same_retired c.args.self.now c.retire.new.self c.retire.result c.retire.ensures.after
