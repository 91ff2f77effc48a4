use Rattle.std.proofs.Common.{subst, sym}
use Rattle.std.specs.Prelude.{Ok, Err}
use Rattle.std.specs.Option.{IfSome}
use Rattle.batch_pool.specs.Pools.{AnswersSubmission, answer_of}
use Rattle.replica_core.proofs.Machines.{answered}
use Rattle.replica_core.proofs.replay.Replay.submit.Goals as goal
use Rattle.replica_core.proofs.replay.Replay.submit.Goals.{in-Ok, in-Err-Refused, in-Err-NoMemory}

-- src/submitting.rt:13:5
pub returns-clause-answer : goal.returns-clause-answer
returns-clause-answer g c = elim c.match-submit.branch [
  | in-Ok w ↦ rw (w.result-is, sym c.self.view_is)
      (answered (g.A.Application.meaning) (c.self.inside.executor) (c.self.inside.config.kind) (c.self.inside.committed.items)
      (c.self.invariant.3)
      (g.A.Application.machine c.app.result.now) (c.self.inside.pool) (c.args.bytes.now) (Ok tt) (c.app.ensures)
      (w.in-Ok.ensures.answer))
  | in-Err-Refused w ↦
      let shown = subst (λ f. IfSome (answer_of (Err f))
      (AnswersSubmission (g.A.Application.meaning) (g.A.Application.machine c.app.result.now) c.self.inside.pool c.args.bytes.now))
      w.in-Err-Refused.field-0-is
      (w.in-Err-Refused.ensures.answer) in
      rw (w.result-is, sym c.self.view_is)
      (answered (g.A.Application.meaning) (c.self.inside.executor) (c.self.inside.config.kind) (c.self.inside.committed.items)
      (c.self.invariant.3)
      (g.A.Application.machine c.app.result.now) (c.self.inside.pool) (c.args.bytes.now) (Err w.in-Err-Refused.refusal) (c.app.ensures)
      shown)
  | in-Err-NoMemory w ↦ rw w.result-is tt
]
