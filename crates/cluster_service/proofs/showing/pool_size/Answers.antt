use Rattle.std.proofs.Common.{ap, ◌∙◌, length, min}
use Rattle.std.specs.List.{sum_by}
use Rattle.cluster_service.proofs.showing.pool_size.Goals as goal

pub returns-clause-shown : goal.returns-clause-shown
returns-clause-shown g c = record {
  replay = c.len.ensures.sound.replay;
  transactions = c.waiting.ensures;
  bytes = c.bytes_in.ensures ∙ ap (λ l. min (sum_by length l) _) c.pool.ensures;
}
