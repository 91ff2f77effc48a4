use Rattle.std.proofs.Common.{length, arith}
use Rattle.std.proofs.lemmas.List.{length-replicate}
use Rattle.tally.proofs.Counted.{counted_none}
use Rattle.tally.proofs.phase_reports.PhaseReports.clear.Goals as goal

pub invariant_of-self : goal.invariant_of-self
invariant_of-self c = (
  rw c.clear.ensures (counted_none (length c.self.inside.tally) c.clear-2.new.self c.clear-2.ensures.none c.clear-2.ensures.masks),
  rw (c.clear.ensures, length-replicate) (omega (arith, c.clear-2.ensures.room, c.self.invariant.1)),
)
