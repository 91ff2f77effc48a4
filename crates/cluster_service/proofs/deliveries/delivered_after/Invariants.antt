-- no entry so far says it
use Rattle.std.proofs.Common.{◌≡◌, drop}
use Rattle.ledger_model.specs.Commits.{commits_of}
use Rattle.cluster_service.specs.Deliveries.{delivered_in}
use Rattle.cluster_service.proofs.deliveries.delivered_after.Given as goal

abbrev pub invariant-loop-index : goal.invariant-loop-index
invariant-loop-index g l =
    let batches = commits_of l.state.config l.state.id l.state.entries in
    delivered_in batches (drop l.index l.state.entries) l.tx ≡ delivered_in batches (drop l.first l.state.entries) l.tx
