-- what the events did is what `take_all` ensures, and the height is the replica's after them
use Rattle.std.proofs.Common.{◌≡◌, ◌∙◌}
use Rattle.replica_turns.specs.Turns.{height_in}
use Rattle.replica_turns.proofs.turns.turn.Goals as goal

pub returns-clause-seat : goal.returns-clause-seat
returns-clause-seat g c =
    let height : c.new.result ≡ height_in c.take_all-taken.new.state = c.new.ensures ∙ c.height.ensures.height in
    rw height at c.publish.ensures.height

pub returns-clause-index : goal.returns-clause-index
returns-clause-index g c = c.take_all-taken.ensures.index

pub returns-clause-applied : goal.returns-clause-applied
returns-clause-applied g c = c.take_all-taken.ensures.applied

pub returns-clause-refused : goal.returns-clause-refused
returns-clause-refused g c = c.take_all-taken.ensures.refused

pub returns-clause-sound : goal.returns-clause-sound
returns-clause-sound g c = c.take_all-taken.ensures.sound
