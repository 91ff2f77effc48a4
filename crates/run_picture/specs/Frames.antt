-- The frames that a picture shows: those that replicas send, and those that come to them.
use Rattle.std.specs.Prelude.{ℕ, ◌+◌, List, [], ◌∷◌, ◌++◌, Option, Some, None, Ok, option_map, Result, if◌then◌else◌}
use Rattle.ledger_model.specs.declared.event.Event.{Event}
use Rattle.ledger_model.specs.declared.event.Event.TheVariants as event
use Rattle.ledger_model.specs.declared.history.Entry.{Entry}
use Rattle.ledger_model.specs.declared.reply.Reply.{Reply}
use Rattle.ledger_model.specs.declared.reply.Reply.TheVariants as reply
use Rattle.ledger_model.specs.declared.reply.Ignored.{Ignored}
use Rattle.ledger_model.specs.declared.reply.Sent.{Sent}
use Rattle.ledger_model.specs.declared.statement.Statement.{Statement}
use Rattle.ledger_model.specs.Reading.{reading}
use Rattle.run_picture.specs.declared.part.Part.{Part}
use Rattle.run_picture.specs.declared.part.Moment.{Moment}
use Rattle.run_picture.specs.declared.sent_frames.SentFrame.{SentFrame}
use Rattle.run_picture.specs.declared.deliveries.Delivery.{Delivery}
use Rattle.run_picture.specs.Parts.{drawn_round, has_statement}

-- the statement that the bytes encode, if they are a frame
abbrev pub statement_in : List ℕ → Option Statement
statement_in bytes = option_map (λ s. s.statement) (reading bytes)

-- replica r's entry i, in round c
abbrev pub moment_of : ℕ → ℕ → ℕ → Moment
moment_of r i c = record { replica = r; entry = i; round = c }

-- ---- what is sent

-- the frame at place j of those that are sent, with its statement
abbrev pub shown_frame : Moment → ℕ → Sent → SentFrame
shown_frame m j sent =
    record { at = m; place = j; addressee = sent.addressee; bytes = sent.frame; statement = statement_in sent.frame }

-- the frame, if the picture shows what it is about
abbrev pub frame_shown : Part → Moment → ℕ → Sent → List SentFrame
frame_shown part m j sent = if has_statement part (statement_in sent.frame) then shown_frame m j sent ∷ [] else []

-- these frames, of which the first has place j
abbrev pub frames_from : Part → Moment → ℕ → List Sent → List SentFrame
frames_from part m j [] = []
frames_from part m j (s ∷ ss) = frame_shown part m j s ++ frames_from part m (j + 1) ss

-- the frames, if their round is shown
abbrev pub frames_of_round : Part → ℕ → ℕ → Option ℕ → List Sent → List SentFrame
frames_of_round part r i None frames = []
frames_of_round part r i (Some c) frames = frames_from part (moment_of r i c) 0 frames

-- the frames that the reply sends as it opens the next round
abbrev pub frames_of_reply : Part → ℕ → ℕ → ℕ → Reply → List SentFrame
frames_of_reply part r i clock (reply.RoundEnded (Ok ended)) = frames_of_round part r i (drawn_round part (clock + 1)) ended.frames
frames_of_reply part r i clock _ = []

-- the frames that replica r's entry i sends
abbrev pub frames_of_entry : Part → ℕ → ℕ → ℕ → Entry → List SentFrame
frames_of_entry part r i clock e = frames_of_reply part r i clock e.reply

-- ---- what is delivered

-- bytes that were delivered, and the answer to them
abbrev pub delivery_of : Moment → List ℕ → Result (Unit {0}) Ignored → Delivery
delivery_of m frame given = record { at = m; bytes = frame; statement = statement_in frame; answer = given }

-- the delivery, if its round and what it is about are shown
abbrev pub delivery_in : Part → ℕ → ℕ → Option ℕ → List ℕ → Result (Unit {0}) Ignored → List Delivery
delivery_in part r i None frame given = []
delivery_in part r i (Some c) frame given =
    if has_statement part (statement_in frame) then delivery_of (moment_of r i c) frame given ∷ [] else []

-- the delivery that an event and its reply are, if they are one
abbrev pub deliveries_of_reply : Part → ℕ → ℕ → ℕ → Event → Reply → List Delivery
deliveries_of_reply part r i clock (event.Deliver frame) (reply.Delivered given) =
    delivery_in part r i (drawn_round part clock) frame given
deliveries_of_reply part r i clock _ _ = []

-- what is delivered to replica r with entry i
abbrev pub deliveries_of_entry : Part → ℕ → ℕ → ℕ → Entry → List Delivery
deliveries_of_entry part r i clock e = deliveries_of_reply part r i clock e.event e.reply
