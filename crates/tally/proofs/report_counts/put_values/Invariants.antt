use Rattle.std.proofs.Common.{◌≡◌, ◌+◌, ◌≤◌, length}
use Rattle.std.specs.Prelude.{vec_capacity}
use Rattle.tally.specs.ReportMasks.{with_numbers}
use Rattle.tally.proofs.report_counts.put_values.Given as goal

abbrev pub invariant-loop-index : goal.invariant-loop-index
invariant-loop-index l = record {
  items : l.values.items ≡ with_numbers l.tally l.signer l.index l.initial.values.items;
  few : length l.values.items ≤ length l.initial.values.items + l.index;
  capacity : vec_capacity l.initial.values ≤ vec_capacity l.values;
}
