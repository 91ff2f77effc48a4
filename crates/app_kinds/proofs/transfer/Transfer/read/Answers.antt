use Rattle.std.proofs.Common.{rules}
use Rattle.app_kinds.proofs.transfer.Transfer.read.Goals as goal

pub returns-clause-read : goal.returns-clause-read
returns-clause-read c = search rules
