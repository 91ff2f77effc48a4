use Rattle.std.proofs.Common.{◌≡◌, take}
use Rattle.std.specs.Prelude.{None}
use Rattle.simulation.specs.Lies.{first_serving}
use Rattle.simulation.specs.Indexes.{frames_of_report}
use Rattle.simulation.proofs.report_list.ReportList.first_serving.Given as goal

-- nothing served so far
abbrev pub invariant-loop-report : goal.invariant-loop-report
invariant-loop-report l = first_serving l.lie l.source l.replica
    (frames_of_report l.lie l.source l.replica (take l.report-index l.self.reports.items)) ≡ None
