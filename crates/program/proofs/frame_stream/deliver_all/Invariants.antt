-- some frames were delivered, and the others are left
use Rattle.std.proofs.Common.{◌≡◌, List, ◌++◌}
use Rattle.std.specs.Vec.Iter.{into_iter_items}
use Rattle.ledger_model.specs.declared.statement.SignedStatement.{SignedStatement}
use Rattle.program.specs.Answering.{Printed, deliveries}
use Rattle.program.proofs.frame_stream.deliver_all.Given as goal

abbrev pub invariant-loop-frame : goal.invariant-loop-frame
invariant-loop-frame g l =
    (done : List SignedStatement) × ((l.fn.frames.items ≡ done ++ into_iter_items l.frame-iterator)
    × Printed (g.A.Application.meaning) l.initial.state (deliveries done) l.state (g.W.Write.contents l.initial.writer)
    (g.W.Write.contents l.writer))
