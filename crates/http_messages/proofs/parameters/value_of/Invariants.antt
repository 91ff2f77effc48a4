-- the first pair of the name is among those that are left
use Rattle.std.proofs.Common.{◌≡◌}
use Rattle.form_urlencoded.specs.Form.{raw_pairs}
use Rattle.form_urlencoded.specs.Parse.{raw_pairs_left}
use Rattle.http_messages.specs.Parameters.{first_parameter}
use Rattle.http_messages.proofs.parameters.value_of.Given as goal

abbrev pub invariant-loop-written : goal.invariant-loop-written
invariant-loop-written l =
    (goal.iterator-loop-written).can_next l.written-iterator × (goal.iterator-loop-written).is_finite l.written-iterator
    × (first_parameter l.name (raw_pairs l.query) ≡ first_parameter l.name (raw_pairs_left l.written-iterator))
