use Rattle.std.proofs.Common.{◌≡◌, take}
use Rattle.std.specs.List.{filter_map}
use Rattle.proper_sets.specs.Numbers.{named}
use Rattle.proper_sets.specs.Puts.{with_values}
use Rattle.proper_sets.proofs.reported.Absorption.put_named.Given as goal

abbrev pub invariant-loop-reported : goal.invariant-loop-reported
invariant-loop-reported l =
    l.values
    ≡ with_values (filter_map (named l.self.config.now l.self.own l.self.reports.now) (take l.reported-index l.reported-items)) l.fn.values
