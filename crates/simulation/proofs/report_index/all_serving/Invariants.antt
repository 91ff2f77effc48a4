use Rattle.std.proofs.Common.{◌≡◌, ◌≤◌, length}
use Rattle.std.specs.List.{filter_map, range_with_len, AllByRecursion}
use Rattle.ledger_model.specs.Spelling.{IsSignedReport}
use Rattle.simulation.specs.Indexes.{IsIndexOf}
use Rattle.simulation.specs.Playing.{serving, simulation_of}
use Rattle.simulation.proofs.report_index.all_serving.Given as goal

-- the reports that serve so far, and the lists that were made for them
abbrev pub invariant-loop-replica : goal.invariant-loop-replica
invariant-loop-replica g l =
    (l.reports.items ≡ filter_map (serving (simulation_of l.world l.lies) l.lie l.source) (range_with_len 0 l.replica))
    × AllByRecursion (IsSignedReport l.lie.version) l.reports.items × IsIndexOf l.index l.world l.lies
    × (l.replica ≤ length l.index.sent.items)
