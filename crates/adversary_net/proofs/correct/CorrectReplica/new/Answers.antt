use Rattle.std.proofs.Common.{sym, subst, refl}
use Rattle.ledger_model.specs.Commits.{commits_of}
use Rattle.locked_replica.specs.States.{StateView, RunsAlone}
use Rattle.adversary_net.specs.Sending.{IsKept}
use Rattle.adversary_net.proofs.correct.CorrectReplica.new.Goals as goal

-- nothing happened yet
pub invariant_of-result : goal.invariant_of-result
unfolding RunsAlone commits_of
invariant_of-result g c = subst (λ (s : StateView). IsKept (g.A.Application.meaning) c.new-2.result.sending.items c.new-2.result.total s)
    (sym c.in_ok-new.ensures)
    (record { indexed = c.new-2.ensures; machine = refl })
