use Rattle.std.proofs.Common.{◌≡◌, take}
use Rattle.ledger_model.specs.Worlds.{frames_sent}
use Rattle.simulation.specs.Indexes.{report_frames}
use Rattle.simulation.proofs.report_list.add_entries.Given as goal

-- these are the frames of reports of the entries so far
abbrev pub invariant-loop-index : goal.invariant-loop-index
invariant-loop-index g l = l.reports.items ≡ report_frames (frames_sent (take l.index l.state.entries))
