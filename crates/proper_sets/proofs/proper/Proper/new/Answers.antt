use Rattle.std.proofs.Common.{arith, []}
use Rattle.proper_sets.proofs.Cuts.{IsSmall-with_own}
use Rattle.proper_sets.proofs.proper.Proper.new.Goals as goal

pub invariant_of-result : goal.invariant_of-result
invariant_of-result c = rw (c.in_ok-copy.ensures.same, c.in_ok-put.ensures.ok, c.new-explicit.ensures)
    (IsSmall-with_own c.args.initial.now [] (omega arith))
