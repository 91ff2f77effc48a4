use Rattle.http_messages.specs.Replies.{fields_text}
use Rattle.http_messages.proofs.replying.fields.Goals as goal

pub returns : goal.returns
unfolding fields_text
returns c = rw c.reason-reason.ensures at c.format.ensures.ok
