use Rattle.std.proofs.Common.{◌≡◌, false, take}
use Rattle.std.specs.List.{list_any}
use Rattle.proper_sets.specs.Numbers.{is_common}
use Rattle.proper_sets.proofs.reported.Absorption.are_others_rare.Given as goal

abbrev pub invariant-loop-reported : goal.invariant-loop-reported
invariant-loop-reported l =
    list_any (is_common l.self.config.now l.self.own l.self.initial.now l.self.reports.now) (take l.reported-index l.reported-items) ≡ false
