use Rattle.tally.proofs.Counted.{naming_mask}
use Rattle.tally.proofs.phase_reports.PhaseReports.naming.Goals as goal

pub returns : goal.returns
returns c = λ v masks.
    naming_mask c.args.self.now v c.self.inside.counts.all c.args.masks (rw (← c.self.view_is) c.self.invariant.0.all) masks
