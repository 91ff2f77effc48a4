-- what the frames have shown so far, and what is left
use Rattle.std.specs.Iterator.Adapters.{zip_first, zip_second}
use Rattle.std.specs.Vec.Iter.{into_iter_items}
use Rattle.replica_core.proofs.ShownClosings.{IsShowing}
use Rattle.replica_core.proofs.shown_frames.show_each.Given as goal

abbrev pub invariant-loop-instance : goal.invariant-loop-instance
invariant-loop-instance l =
    IsShowing l.fn.instances l.fn.endings.items l.fn.frames.items (zip_first l.instance-iterator)
    (into_iter_items (zip_second l.instance-iterator)) l.frames.items l.closings.items
