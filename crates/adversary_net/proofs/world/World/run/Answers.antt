use Rattle.std.proofs.Common.{sym, subst, rules}
use Rattle.adversary_net.specs.WorldViews.{IsCluster}
use Rattle.adversary_net.proofs.Headline.{one_ledger}
use Rattle.adversary_net.proofs.UsedLeaves.{accounts, once, replays}
use Rattle.adversary_net.proofs.AppAnswers.{own_machines, own_replies}
use Rattle.adversary_net.proofs.world.World.run.Goals as goal

pub returns-in_err-answers-clause-machines : goal.returns-in_err-answers-clause-machines
returns-in_err-answers-clause-machines g c = own_machines (g.A.Application.meaning) c.args.self.now
    (subst (IsCluster (g.A.Application.meaning)) c.self.view_is c.self.invariant)

pub returns-in_err-answers-clause-replies : goal.returns-in_err-answers-clause-replies
returns-in_err-answers-clause-replies g c = own_replies (g.A.Application.meaning) c.args.self.now
    (subst (IsCluster (g.A.Application.meaning)) c.self.view_is c.self.invariant)

pub returns-in_err-reserve-clause-machines : goal.returns-in_err-reserve-clause-machines
returns-in_err-reserve-clause-machines g c = rw c.in_err-reserve.ensures.items (own_machines (g.A.Application.meaning) _ c.self.invariant)

pub returns-in_err-reserve-clause-replies : goal.returns-in_err-reserve-clause-replies
returns-in_err-reserve-clause-replies g c = own_replies (g.A.Application.meaning) _ c.self.invariant

pub returns-clause-machines : goal.returns-clause-machines
returns-clause-machines g c = own_machines (g.A.Application.meaning) c.run_each.new.self c.run_each.ensures.cluster

pub returns-clause-replies : goal.returns-clause-replies
returns-clause-replies g c = own_replies (g.A.Application.meaning) c.run_each.new.self c.run_each.ensures.cluster

pub returns-in_err-answers-clause-one_ledger : goal.returns-in_err-answers-clause-one_ledger
returns-in_err-answers-clause-one_ledger g c = one_ledger (g.A.Application.meaning) c.args.self.now
    (subst (IsCluster (g.A.Application.meaning)) c.self.view_is c.self.invariant)

pub returns-in_err-reserve-clause-one_ledger : goal.returns-in_err-reserve-clause-one_ledger
returns-in_err-reserve-clause-one_ledger g c = rw c.in_err-reserve.ensures.items (one_ledger (g.A.Application.meaning) _ c.self.invariant)

pub returns-clause-one_ledger : goal.returns-clause-one_ledger
returns-clause-one_ledger g c = one_ledger (g.A.Application.meaning) c.run_each.new.self c.run_each.ensures.cluster

pub returns-clause-runs : goal.returns-clause-runs
returns-clause-runs g c = search rules

pub returns-in_err-answers-clause-account : goal.returns-in_err-answers-clause-account
returns-in_err-answers-clause-account g c = accounts (g.A.Application.meaning) c.args.self.now
    (subst (IsCluster (g.A.Application.meaning)) c.self.view_is c.self.invariant)

pub returns-in_err-reserve-clause-account : goal.returns-in_err-reserve-clause-account
returns-in_err-reserve-clause-account g c = accounts (g.A.Application.meaning) _ c.self.invariant

pub returns-clause-account : goal.returns-clause-account
returns-clause-account g c = accounts (g.A.Application.meaning) c.run_each.new.self c.run_each.ensures.cluster

pub returns-clause-leaves : goal.returns-clause-leaves
returns-clause-leaves g c = rw (sym c.self.view_is) c.run_each.ensures.leaves

pub returns-in_err-answers-clause-replay : goal.returns-in_err-answers-clause-replay
returns-in_err-answers-clause-replay g c = replays (g.A.Application.meaning) c.args.self.now
    (subst (IsCluster (g.A.Application.meaning)) c.self.view_is c.self.invariant)

pub returns-in_err-reserve-clause-replay : goal.returns-in_err-reserve-clause-replay
returns-in_err-reserve-clause-replay g c = replays (g.A.Application.meaning) _ c.self.invariant

pub returns-clause-replay : goal.returns-clause-replay
returns-clause-replay g c = replays (g.A.Application.meaning) c.run_each.new.self c.run_each.ensures.cluster

pub returns-in_err-answers-clause-once : goal.returns-in_err-answers-clause-once
returns-in_err-answers-clause-once g c = once (g.A.Application.meaning) c.args.self.now
    (subst (IsCluster (g.A.Application.meaning)) c.self.view_is c.self.invariant)

pub returns-in_err-reserve-clause-once : goal.returns-in_err-reserve-clause-once
returns-in_err-reserve-clause-once g c = once (g.A.Application.meaning) _ c.self.invariant

pub returns-clause-once : goal.returns-clause-once
returns-clause-once g c = once (g.A.Application.meaning) c.run_each.new.self c.run_each.ensures.cluster
