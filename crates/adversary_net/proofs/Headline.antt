-- What happened in a running cluster is a run of one sequential ledger.
use Rattle.ledger_model.specs.Meanings.{Meanings}
use Rattle.std.proofs.Common.{◌≡◌, length, ap, subst, sym, ◌∙◌, arith}
use Rattle.ledger_model.specs.Applications.{run}
use Rattle.ledger_model.specs.Worlds.{World, world_at, IsLedger, Refines}
use Rattle.ledger_laws.proofs.WorldRuns.{runs_refine, world_now}
use Rattle.adversary_net.specs.WorldViews.{WorldView, IsCluster, correct_of, world_of}
use Rattle.adversary_net.specs.Headline.{IsUnforgedRun, IsOneLedger}
use Rattle.adversary_net.proofs.AppAnswers.{own_machines}

-- where nothing that was accepted was forged
pub one_ledger : (meaning : Meanings) (c : WorldView) → IsCluster meaning c → IsUnforgedRun c → IsOneLedger meaning c
one_ledger meaning c cluster unforged =
    let refined : Refines meaning c.config (world_of c) =
    runs_refine meaning c.config c.ring (correct_of c) cluster.ran.steps cluster.ran.answers (world_of c) cluster.replicas cluster.ran.runs
    unforged in
    let now : world_at (world_of c) (length c.order) ≡ world_of c =
    world_now meaning c.config c.ring (correct_of c) cluster.ran.steps cluster.ran.answers (world_of c) cluster.ran.runs in
    let ledger : IsLedger meaning c.config (world_of c).histories (refined.ledger (length c.order)) =
    subst (λ (w : World). IsLedger meaning c.config w.histories (refined.ledger (length c.order))) now
    (refined.is_ledger (length c.order) (omega arith)) in
    record {
      refines = refined;
      machines = λ r m found. own_machines meaning c cluster r m found ∙ ap (run meaning c.config.kind) (sym (ledger.each r m found));
    }
