use Rattle.std.proofs.Common.{rules}
use Rattle.cluster_service.proofs.lines.port_line.Goals as goal

pub returns : goal.returns
returns c = search rules
