use Rattle.std.proofs.Common.{arith, rules, add-zero}
use Rattle.std.proofs.lemmas.Grind.{common_steps}
use Rattle.tally.proofs.Readings.{Counts-unread, Counts-called}
use Rattle.tally.proofs.places.Tally.count_where.Goals as goal
use Rattle.tally.proofs.places.Tally.count_where.Goals.{in-Some+then-predicate, in_default, in_default-via-in-None-1}
use Rattle.tally.proofs.places.Tally.count_where.Goals.{in_default-via-in-Some+else-predicate}

pub loop-place-preserved : goal.loop-place-preserved
loop-place-preserved g c =
    elim c.match-place.branch [
      | in-Some+then-predicate w ↦ rw (w.predicate-is, w.count-is) (let h =
          Counts-called g.F.FnMut _ _ _ _ _ c.place-item.result c.loop-place.invariant c.loop-place-test.true c.place-item.is _
          w.in-Some.is _ _ w.predicate.ensures in rw w.if-predicate.true at h)
      | in_default w ↦ elim w.in_default.branch [
        | in_default-via-in-None-1 v ↦
            rw (w.predicate-is, w.count-is, v.predicate-is)
            (Counts-unread g.F.FnMut _ _ _ _ _ c.place-item.result c.loop-place.invariant c.loop-place-test.true c.place-item.is
            (search rules))
        | in_default-via-in-Some+else-predicate v ↦
            rw (w.predicate-is, w.count-is, v.predicate-is) (let h =
            Counts-called g.F.FnMut _ _ _ _ _ c.place-item.result c.loop-place.invariant c.loop-place-test.true c.place-item.is _
            v.in-Some.is _ _ v.predicate.ensures in rw (v.if-predicate.false, add-zero) at h)
      ]
    ]

pub returns-clause-bounded : goal.returns-clause-bounded
returns-clause-bounded g c = grind (arith, common_steps)

pub returns-clause-counted : goal.returns-clause-counted
returns-clause-counted g c = grind (arith, common_steps)
