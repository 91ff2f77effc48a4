-- what is left of the heights decides of them all
use Rattle.std.specs.Iterator.Adapters.{zip_first, zip_second}
use Rattle.std.specs.Slice.Iter.{iter_rest}
use Rattle.replica_core.proofs.JudgedMades.{IsJudging}
use Rattle.replica_core.proofs.replay.Replay.may_make_all.Given as goal

abbrev pub invariant-loop-instance : goal.invariant-loop-instance
invariant-loop-instance g l = IsJudging (g.A.Application.meaning) l.self l.closings (zip_first l.instance-iterator)
    (iter_rest (zip_second l.instance-iterator))
