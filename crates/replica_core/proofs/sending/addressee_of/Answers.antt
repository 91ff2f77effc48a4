use Rattle.std.proofs.Common.{rules}
use Rattle.replica_core.proofs.sending.addressee_of.Goals as goal

pub returns-in-Ack : goal.returns-in-Ack
returns-in-Ack c = search rules
