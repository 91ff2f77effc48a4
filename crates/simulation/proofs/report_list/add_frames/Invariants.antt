use Rattle.std.proofs.Common.{◌≡◌, take}
use Rattle.simulation.specs.Indexes.{report_frames}
use Rattle.simulation.proofs.report_list.add_frames.Given as goal

-- these are the frames of reports so far
abbrev pub invariant-loop-index : goal.invariant-loop-index
invariant-loop-index l = l.reports.items ≡ report_frames (take l.index l.frames)
