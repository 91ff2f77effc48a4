use Rattle.std.proofs.Common.{ap, sym, ◌∙◌}
use Rattle.std.proofs.lemmas.Option.{IfSome_then}
use Rattle.cluster_workers.specs.RunningClusters.{first_ring}
use Rattle.cluster_service.proofs.Begun.{first_ring_of}
use Rattle.cluster_service.proofs.serving.serve_through.Goals as goal

pub serve_beside-requires-clause-http : goal.serve_beside-requires-clause-http
serve_beside-requires-clause-http g c κs lasting =
    IfSome_then c.args.listeners.http c.seat_count.ensures.some (λ _ count. c.in_ok-cluster.ensures.reader_count ∙ count)

pub take_all-requires-clause-ring : goal.take_all-requires-clause-ring
take_all-requires-clause-ring g c =
    let s = c.args.settings.now.cluster in
    c.in_ok-states.ensures.ring
    ∙ sym (c.in_ok-cluster.ensures.ring ∙ ap first_ring c.in_ok-states.ensures.replicas
    ∙ first_ring_of (g.A.Application.meaning) s.cluster s.tx)
