use Rattle.std.proofs.Common.{◌≡◌, Some, None, rules}
use Rattle.std.specs.List.{find}
use Rattle.tally.specs.ReportMasks.{is_of}
use Rattle.tally.proofs.Numbering.{found_masks, missing_masks}
use Rattle.tally.proofs.phase_reports.PhaseReports.masks_of.Goals as goal

pub returns-in-Some : goal.returns-in-Some
returns-in-Some c =
    let found : find (is_of c.self.inside.tally c.args.value.now) c.self.inside.counts.values.items
    ≡ Some c.in-Some.reported.now = search rules in
    rw (← c.self.view_is)
    (found_masks c.self.inside.tally c.self.inside.counts.values.items c.args.value.now c.in-Some.reported.now
    c.self.invariant.0.values found)

pub returns-in-None : goal.returns-in-None
returns-in-None c =
    let missing : find (is_of c.self.inside.tally c.args.value.now) c.self.inside.counts.values.items
    ≡ None = search rules in
    rw (← c.self.view_is)
    (missing_masks c.self.inside.tally c.self.inside.counts.values.items c.args.value.now c.self.invariant.0.values missing)
