-- the new entry answers what the application answers as of its last block
use Rattle.std.proofs.Common.{◌≡◌, ◌∙◌, ap, Some, slice_get, arith}
use Rattle.std.proofs.lemmas.Grind.{common_steps}
use Rattle.ledger_model.specs.Commits.{commits_of}
use Rattle.ledger_model.specs.Replies.{query_reply}
use Rattle.replica_turns.specs.Clients.{query_reply_at}
use Rattle.replica_turns.proofs.Clients.{last_answer, query_added}
use Rattle.replica_turns.proofs.client_turns.query.Goals as goal

pub answer_at-requires : goal.answer_at-requires
answer_at-requires g c =
    let old = c.args.state.now in
    let added = c.in_ok-index.ensures.applied in
    let batches = commits_of old.config old.id old.entries in (
      _,
      query_added (g.A.Application.meaning) old.config old.ring old.id old.entries c.apply.new.self.entries c.args.key c.new.result
          added.reply c.in_ok-index.index
          c.in_ok-index.ensures.index c.new.ensures added.added added.lawful
          ∙ ap Some (last_answer (g.A.Application.meaning) old.config.kind batches c.args.key),
    )

pub returns-clause-answer : goal.returns-clause-answer
returns-clause-answer g c =
    let old = c.args.state.now in
    let added = c.in_ok-index.ensures.applied in
    let told : query_reply_at (slice_get c.apply.new.self.entries c.in_ok-index.index)
    ≡ Some (query_reply (g.A.Application.meaning) old.config.kind (commits_of old.config old.id old.entries) c.args.key 0) =
    query_added (g.A.Application.meaning) old.config old.ring old.id old.entries c.apply.new.self.entries c.args.key c.new.result
    added.reply c.in_ok-index.index
    c.in_ok-index.ensures.index c.new.ensures added.added added.lawful in
    cc (told, c.in_ok-answer_at.ensures)

pub returns-clause-applied : goal.returns-clause-applied
returns-clause-applied g c = grind (arith, common_steps)

pub returns-in_err-answer_at-clause-fault : goal.returns-in_err-answer_at-clause-fault
returns-in_err-answer_at-clause-fault g c = grind (arith, common_steps)
