-- the events so far are applied, and the others are still to come
use Rattle.std.proofs.Common.{◌≡◌, ◌++◌}
use Rattle.std.specs.Vec.Iter.{into_iter_items}
use Rattle.locked_replica.specs.Applying.{AppliesEach, IsSound}
use Rattle.replica_turns.proofs.turns.take_all.Given as goal

abbrev pub invariant-loop-event : goal.invariant-loop-event
invariant-loop-event g l = record {
  split : l.yielded ++ into_iter_items l.event-iterator ≡ l.fn.events.items;
  applied : AppliesEach (g.A.Application.meaning) l.initial.state l.yielded l.state;
  sound : IsSound (g.A.Application.meaning) l.state;
}
