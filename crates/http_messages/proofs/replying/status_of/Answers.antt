use Rattle.std.proofs.Common.{rules}
use Rattle.http_messages.specs.Replies.{status_of}
use Rattle.http_messages.proofs.replying.status_of.Goals as goal

pub returns-in-Unanswered : goal.returns-in-Unanswered
unfolding status_of
returns-in-Unanswered c = search rules
