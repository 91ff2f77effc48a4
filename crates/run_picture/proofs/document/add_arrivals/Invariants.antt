-- the arrivals that are left, after what was appended, complete what all add
use Rattle.std.proofs.Common.{◌≡◌, ◌++◌, drop}
use Rattle.std.specs.List.{flat_map}
use Rattle.run_picture.specs.Arrows.{arrival_text}
use Rattle.run_picture.proofs.document.add_arrivals.Given as goal

abbrev pub invariant-loop-arrival : goal.invariant-loop-arrival
invariant-loop-arrival l =
    l.out.items ++ flat_map (arrival_text l.layout l.sent) (drop l.arrival-index l.arrivals) ≡ l.fn.out.items ++ flat_map
    (arrival_text l.layout l.sent) l.arrivals
