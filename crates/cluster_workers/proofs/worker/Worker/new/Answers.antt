use Rattle.std.proofs.Common.{rules}
use Rattle.cluster_workers.proofs.worker.Worker.new.Goals as goal

pub returns : goal.returns
returns g c = search rules
