use Rattle.std.proofs.Common.{◌≡◌, ◌++◌, map, take}
use Rattle.simulation.specs.Indexes.{report_frames}
use Rattle.simulation.proofs.report_list.add_end.Given as goal

-- the frames of reports so far were appended
abbrev pub invariant-loop-place : goal.invariant-loop-place
invariant-loop-place l = l.reports.items ≡ l.initial.reports.items ++ report_frames (map (λ f. f.frame) (take l.place l.end.frames))
