use Rattle.std.proofs.Common.{ap, sym, ◌∙◌}
use Rattle.cluster_workers.specs.RunningClusters.{first_ring}
use Rattle.cluster_service.proofs.Begun.{first_ring_of}
use Rattle.cluster_service.proofs.running.run_through.Goals as goal

pub take_all-requires-clause-ring : goal.take_all-requires-clause-ring
take_all-requires-clause-ring g c =
    let s = c.args.settings.now in
    c.in_ok-states.ensures.ring
    ∙ sym (c.in_ok-cluster.ensures.ring ∙ ap first_ring c.in_ok-states.ensures.replicas
    ∙ first_ring_of (g.A.Application.meaning) s.cluster s.tx)
