use Rattle.history_bytes.proofs.replies.put_reply.Goals as goal
use Rattle.std.proofs.Common.{append_assoc, arith}
use Rattle.std.proofs.lemmas.Grind.{common_steps}

pub returns-in_ok-put_bytes-in-Executed-Ok : goal.returns-in_ok-put_bytes-in-Executed-Ok
returns-in_ok-put_bytes-in-Executed-Ok c = grind (arith, common_steps)

pub returns-in_ok-put_bytes-in-Proposed-Ok : goal.returns-in_ok-put_bytes-in-Proposed-Ok
returns-in_ok-put_bytes-in-Proposed-Ok c = grind (arith, common_steps)

pub returns-in_ok-put_bytes-in-Queried-Ok : goal.returns-in_ok-put_bytes-in-Queried-Ok
returns-in_ok-put_bytes-in-Queried-Ok c = grind (arith, common_steps)

pub returns-in_ok-put_bytes-in-Retired-Ok : goal.returns-in_ok-put_bytes-in-Retired-Ok
returns-in_ok-put_bytes-in-Retired-Ok c = grind (arith, append_assoc)

pub returns-in_ok-put_bytes-in-RoundEnded-Ok : goal.returns-in_ok-put_bytes-in-RoundEnded-Ok
returns-in_ok-put_bytes-in-RoundEnded-Ok c = grind (arith, common_steps)

pub returns-in_ok-put_u8-in-Submitted-Err : goal.returns-in_ok-put_u8-in-Submitted-Err
returns-in_ok-put_u8-in-Submitted-Err c = grind (arith, common_steps)
