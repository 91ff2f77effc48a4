-- The lines of `abft deliver`: for frames, and for what is wrong with a stream.
use Rattle.std.specs.Prelude.{ℕ, List, [], ◌∷◌, ◌++◌, Result, Ok, Err, codes}
use Rattle.std.specs.List.{flat_map}
use Rattle.ledger_model.specs.declared.history.Entry.{Entry}
use Rattle.ledger_model.specs.declared.reply.Reply.{Reply}
use Rattle.ledger_model.specs.declared.reply.Reply.TheVariants as reply
use Rattle.ledger_model.specs.declared.reply.Ignored.{Ignored}
use Rattle.ledger_model.specs.Causes.{cause_text}
use Rattle.program.specs.declared.line.Line.{Line}
use Rattle.program.specs.declared.line.Line.TheVariants as line
use Rattle.program.specs.declared.stream_end.StreamFault.TheVariants as fault
use Rattle.program.specs.declared.stream_end.StreamEnd.{StreamEnd}
use Rattle.program.specs.declared.stream_end.StreamEnd.TheVariants as stream

-- a line, without the line feed
abbrev pub line_text : Line → List ℕ
line_text line.Accepted = codes "accepted"
line_text (line.Ignored cause) = codes "ignored " ++ cause_text cause
line_text (line.Fault fault.TooLong) = codes "fault 1 TooLong"
line_text (line.Fault fault.Malformed) = codes "fault 2 Malformed"
line_text line.Cut = codes "cut"

-- a line, with the line feed
abbrev pub line_bytes : Line → List ℕ
line_bytes l = line_text l ++ 10 ∷ []

-- the line for the reply to a frame
abbrev pub line_of : Result (Unit {0}) Ignored → Line
line_of (Ok _) = line.Accepted
line_of (Err why) = line.Ignored why

-- the text for a reply: a line if it is the reply to a frame
abbrev pub frame_reply_text : Reply → List ℕ
frame_reply_text (reply.Submitted r) = []
frame_reply_text (reply.Proposed r) = []
frame_reply_text (reply.Delivered r) = line_bytes (line_of r)
frame_reply_text (reply.RoundEnded r) = []
frame_reply_text (reply.Executed r) = []
frame_reply_text (reply.Queried r) = []
frame_reply_text (reply.Retired r) = []

-- the text for a history: a line for each frame, in order
abbrev pub lines_of : List Entry → List ℕ
lines_of entries = flat_map (λ e. frame_reply_text e.reply) entries

-- the last line, which reports what is wrong with the stream
abbrev pub last_line : StreamEnd → List ℕ
last_line stream.Whole = []
last_line stream.Cut = line_bytes line.Cut
last_line (stream.Fault f) = line_bytes (line.Fault f)
