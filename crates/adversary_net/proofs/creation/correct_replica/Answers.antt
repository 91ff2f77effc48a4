use Rattle.std.proofs.Common.{length}
use Rattle.std.specs.Vec.Iter.{into_iter_items}
use Rattle.adversary_net.proofs.Beginning.{first_app, supply_left}
use Rattle.adversary_net.proofs.creation.correct_replica.Goals as goal

pub new-requires-clause-opening : goal.new-requires-clause-opening
new-requires-clause-opening g c =
    let s = c.args.supply.now in
    first_app (g.A.Application.meaning) g.A.Application.machine c.args.config (length (into_iter_items s.apps)) (into_iter_items s.apps)
    (into_iter_items c.next.new.self) (into_iter_items s.randoms)
    c.in-Some-Some.app c.requires.supply c.in-Some-Some.ensures.cases.0

pub returns-in_err-copy-in-Some-Some-clause-supply_left : goal.returns-in_err-copy-in-Some-Some-clause-supply_left
returns-in_err-copy-in-Some-Some-clause-supply_left g c =
    let s = c.args.supply.now in
    supply_left (g.A.Application.meaning) g.A.Application.machine c.args.config (length (into_iter_items s.apps)) (into_iter_items s.apps)
    (into_iter_items c.next.new.self) (into_iter_items s.randoms) (into_iter_items c.next-2.new.self)
    c.in-Some-Some.app c.in-Some-Some.randoms c.requires.supply c.in-Some-Some.ensures.cases.0 c.in-Some-Some.ensures'.cases.0

pub returns-clause-supply_left : goal.returns-clause-supply_left
returns-clause-supply_left g c =
    let s = c.args.supply.now in
    supply_left (g.A.Application.meaning) g.A.Application.machine c.args.config (length (into_iter_items s.apps)) (into_iter_items s.apps)
    (into_iter_items c.next.new.self) (into_iter_items s.randoms) (into_iter_items c.next-2.new.self)
    c.in-Some-Some.app c.in-Some-Some.randoms c.requires.supply c.in-Some-Some.ensures.cases.0 c.in-Some-Some.ensures'.cases.0
