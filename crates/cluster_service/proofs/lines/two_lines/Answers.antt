use Rattle.std.proofs.Common.{rules}
use Rattle.cluster_service.proofs.lines.two_lines.Goals as goal

pub returns : goal.returns
returns c = search rules
