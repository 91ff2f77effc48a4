-- the unknown reports of the frames so far, with those of the frames that are left put in, are those of all
use Rattle.std.proofs.Common.{◌≡◌, [], drop}
use Rattle.std.specs.List.{flat_map}
use Rattle.replica_turns.specs.Arrivals.{reports_of_signed, with_unknown}
use Rattle.replica_turns.proofs.arrivals.unknown_reports.Given as goal

abbrev pub invariant-loop-frame : goal.invariant-loop-frame
invariant-loop-frame l =
    with_unknown l.fn.verifier (flat_map (reports_of_signed l.fn.config l.fn.verifier) (drop l.frame-index l.fn.frames)) l.parts.items
    ≡ with_unknown l.fn.verifier (flat_map (reports_of_signed l.fn.config l.fn.verifier) l.fn.frames) []
