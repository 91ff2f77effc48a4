use Rattle.std.proofs.Common.{rules}
use Rattle.program.proofs.outcome.Piped.of.Goals as goal

pub returns-in-Cluster : goal.returns-in-Cluster
returns-in-Cluster c = search rules
