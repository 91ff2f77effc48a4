-- as many as replicas that were asked
use Rattle.std.proofs.Common.{◌≡◌, vec_len}
use Rattle.cluster_service.specs.Reporting.{AreTaken}
use Rattle.cluster_service.proofs.final_histories.take_all.Given as goal

abbrev pub invariant-loop-id : goal.invariant-loop-id
invariant-loop-id g l = record {
  count : vec_len l.heights ≡ l.id;
  taken : AreTaken (g.A.Application.meaning) l.cluster.config l.fn.ring 0 l.histories.items l.heights.items;
}
