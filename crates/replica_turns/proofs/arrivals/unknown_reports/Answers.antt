use Rattle.replica_turns.specs.Arrivals.{reports_of_signed}
use Rattle.replica_turns.proofs.Putting.{next_put}
use Rattle.replica_turns.proofs.arrivals.unknown_reports.Goals as goal

pub loop-frame-preserved : goal.loop-frame-preserved
loop-frame-preserved c = next_put c.args.verifier.now (reports_of_signed c.args.config.now c.args.verifier.now) c.args.frames.now
    c.loop-frame.frame-index c.frame-item.result c.loop-frame.parts.items c.put_reports.new.once.items _ c.loop-frame-test.true
    c.frame-item.is c.in_ok-put_reports.ensures c.loop-frame.invariant
