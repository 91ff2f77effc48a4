use Rattle.std.proofs.Common.{rules}
use Rattle.client_sessions.proofs.reply_buffer.ReplyBuffer.put_answer.Goals as goal

pub returns-in-NotHeld : goal.returns-in-NotHeld
returns-in-NotHeld c = search rules
