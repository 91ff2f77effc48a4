use Rattle.std.proofs.Common.{arith}
use Rattle.std.proofs.lemmas.Grind.{common_steps}
use Rattle.http_messages.specs.Replies.{http_reply_bytes}
use Rattle.http_messages.proofs.replying.put_reply.Goals as goal

pub returns-clause-ok : goal.returns-clause-ok
unfolding http_reply_bytes
returns-clause-ok c = grind (arith, common_steps)
