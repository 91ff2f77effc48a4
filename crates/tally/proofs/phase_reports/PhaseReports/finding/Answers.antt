use Rattle.tally.proofs.Counted.{finding_mask}
use Rattle.tally.proofs.phase_reports.PhaseReports.finding.Goals as goal

pub returns : goal.returns
returns c = λ v masks.
    finding_mask c.args.self.now v c.naming.result c.self.inside.counts.free c.self.inside.counts.single c.args.masks
    (c.naming.ensures v masks) (rw (← c.self.view_is) c.self.invariant.0.free) (rw (← c.self.view_is) c.self.invariant.0.single) masks
