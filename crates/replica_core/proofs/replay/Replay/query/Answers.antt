use Rattle.std.proofs.Common.{subst, sym}
use Rattle.std.specs.Prelude.{Ok, Err}
use Rattle.std.specs.Option.{IfSome}
use Rattle.abci_executor.specs.Blocks.{IsQueryReply, query_answer_of}
use Rattle.replica_core.proofs.Machines.{replied}
use Rattle.replica_core.proofs.replay.Replay.query.Goals as goal

-- src/querying.rt:12:5
pub returns-in-Ok : goal.returns-in-Ok
returns-in-Ok g c = rw (sym c.self.view_is)
    (replied (g.A.Application.meaning) (c.self.inside.executor) (c.self.inside.config.kind) (c.self.inside.committed.items)
    (c.self.invariant.3) (c.args.key.now)
    (c.args.height) (Ok c.in-Ok.answer) (c.in-Ok.ensures.reply))

-- src/querying.rt:12:5
pub returns-in-Err-NotHeld : goal.returns-in-Err-NotHeld
returns-in-Err-NotHeld g c =
    let shown = subst (λ f. IfSome (query_answer_of (Err f))
    (IsQueryReply (g.A.Application.meaning) c.self.inside.executor c.args.key.now c.args.height))
    c.in-Err-NotHeld.field-0-is (c.in-Err-NotHeld.ensures.reply) in
    rw (sym c.self.view_is) (replied (g.A.Application.meaning) (c.self.inside.executor) (c.self.inside.config.kind)
    (c.self.inside.committed.items)
    (c.self.invariant.3) (c.args.key.now) (c.args.height) (Err (record {})) shown)
