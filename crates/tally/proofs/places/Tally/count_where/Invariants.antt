use Rattle.tally.proofs.Readings.{Counts}
use Rattle.tally.proofs.places.Tally.count_where.Given as goal

abbrev pub invariant-loop-place : goal.invariant-loop-place
invariant-loop-place g l = Counts g.F.FnMut l.place-items l.initial.predicate l.place-index l.predicate l.count
