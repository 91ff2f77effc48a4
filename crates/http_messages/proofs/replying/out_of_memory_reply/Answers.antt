use Rattle.std.proofs.Common.{◌∙◌, refl}
use Rattle.std.specs.Fmt.{digits}
use Rattle.http_messages.specs.Errors.{reason_text, error_text}
use Rattle.http_messages.specs.Replies.{status_of, content_type, allow_text, fields_text, head_text, body_text, http_reply_bytes}
use Rattle.http_messages.proofs.replying.out_of_memory_reply.Goals as goal

pub returns : goal.returns
unfolding http_reply_bytes body_text head_text fields_text status_of content_type allow_text reason_text error_text digits
returns c = c.as_bytes.ensures.value ∙ refl
