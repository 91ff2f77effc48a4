use Rattle.std.proofs.Common.{arith}
use Rattle.std.proofs.lemmas.List.{length-replicate}
use Rattle.tally.proofs.Counted.{counted_none}
use Rattle.tally.proofs.phase_reports.PhaseReports.new.Goals as goal

pub invariant_of-result : goal.invariant_of-result
invariant_of-result c = (
  rw c.in_ok-tally.ensures (counted_none c.args.config.now.replicas c.in_ok-new.field-0 c.in_ok-new.ensures.none c.in_ok-new.ensures.masks),
  rw (c.in_ok-tally.ensures, length-replicate) (omega (arith, c.in_ok-new.ensures.room)),
)
