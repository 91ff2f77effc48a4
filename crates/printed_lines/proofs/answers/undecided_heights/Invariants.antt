-- of the heights so far those that aren't decided are pushed
use Rattle.std.proofs.Common.{◌≡◌, ◌≤◌, ◌-◌, not}
use Rattle.std.specs.Prelude.{is_some, filter}
use Rattle.std.specs.List.{range_with_len}
use Rattle.ledger_model.specs.Commits.{decision_at}
use Rattle.printed_lines.proofs.answers.undecided_heights.Given as goal

abbrev pub invariant-loop-height : goal.invariant-loop-height
invariant-loop-height g l = record {
  from : l.first ≤ l.height;
  pushed : l.heights.items ≡ filter (λ h. not (is_some (decision_at l.state.config l.state.id l.state.entries h)))
      (range_with_len l.first (l.height - l.first));
}
