-- The events, replies and frames that borrowed views show.
use Rattle.std.specs.Prelude.{Ok, Err}
use Rattle.ledger_model.specs.declared.event.Event.{Event}
use Rattle.ledger_model.specs.declared.event.Event.TheVariants as event
use Rattle.ledger_model.specs.declared.reply.Reply.{Reply}
use Rattle.ledger_model.specs.declared.reply.Reply.TheVariants as reply
use Rattle.ledger_model.specs.declared.reply.Sent.{Sent}
use Rattle.locked_replica.specs.declared.reply_view.SentView.{SentView}
use Rattle.locked_replica.specs.declared.event_view.EventView.{EventView}
use Rattle.locked_replica.specs.declared.event_view.EventView.TheVariants as lent_event
use Rattle.locked_replica.specs.declared.reply_view.ReplyView.{ReplyView}
use Rattle.locked_replica.specs.declared.reply_view.ReplyView.TheVariants as lent_reply

-- the event that is borrowed
abbrev pub event_lent : EventView → Event
event_lent (lent_event.Submit bytes) = event.Submit bytes.now
event_lent (lent_event.Propose height) = event.Propose height
event_lent (lent_event.Deliver bytes) = event.Deliver bytes.now
event_lent lent_event.RoundEnd = event.RoundEnd
event_lent lent_event.Execute = event.Execute
event_lent (lent_event.Query key height) = event.Query key.now height
event_lent (lent_event.Retire floor) = event.Retire floor

-- the reply that is borrowed
abbrev pub reply_lent : ReplyView → Reply
reply_lent (lent_reply.Submitted r) = reply.Submitted r
reply_lent (lent_reply.Proposed (Ok batch)) = reply.Proposed (Ok batch.now)
reply_lent (lent_reply.Proposed (Err refusal)) = reply.Proposed (Err refusal)
reply_lent (lent_reply.Delivered r) = reply.Delivered r
reply_lent (lent_reply.RoundEnded r) = reply.RoundEnded r
reply_lent (lent_reply.Executed (Ok block)) = reply.Executed (Ok block.now)
reply_lent (lent_reply.Executed (Err nothing)) = reply.Executed (Err nothing)
reply_lent (lent_reply.Queried (Ok answer)) = reply.Queried (Ok answer.now)
reply_lent (lent_reply.Queried (Err refusal)) = reply.Queried (Err refusal)
reply_lent (lent_reply.Retired r) = reply.Retired r

-- the frame that is borrowed, with its addressee
abbrev pub sent_lent : SentView → Sent
sent_lent sent = record { addressee = sent.addressee; frame = sent.frame.now }
