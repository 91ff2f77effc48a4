-- the parts with the reports that are left put in are those with all of them
use Rattle.std.proofs.Common.{◌≡◌}
use Rattle.replica_turns.specs.Arrivals.{with_unknown}
use Rattle.replica_turns.proofs.arrivals.put_unknown.Given as goal

abbrev pub invariant-loop-report : goal.invariant-loop-report
invariant-loop-report l =
    with_unknown l.fn.verifier l.report-iterator l.once.items
    ≡ with_unknown l.fn.verifier l.initial.report-iterator l.initial.once.items
