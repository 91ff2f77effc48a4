-- How many entries of a history are deliveries, by the replica's answer.
use Rattle.std.specs.Prelude.{ℕ, Bool, false, List, Option, Some, None, Result}
use Rattle.std.specs.List.{count_by}
use Rattle.ledger_model.specs.declared.history.Entry.{Entry}
use Rattle.ledger_model.specs.declared.reply.Ignored.{Ignored}
use Rattle.ledger_model.specs.declared.reply.Reply.{Reply}
use Rattle.ledger_model.specs.declared.reply.Reply.TheVariants as reply
use Rattle.http_messages.specs.FrameCounts.{is_accepted, is_ignored_for}

-- the answer to a delivered frame, if the reply is one
abbrev pub frame_answer : Reply → Option (Result (Unit {0}) Ignored)
frame_answer (reply.Delivered answer) = Some answer
frame_answer _ = None

-- whether there is an answer, and it passes the test
abbrev pub passes_test : (Result (Unit {0}) Ignored → Bool) → Option (Result (Unit {0}) Ignored) → Bool
passes_test test (Some answer) = test answer
passes_test test None = false

-- the number of entries that are deliveries whose answer passes the test
abbrev pub deliveries_with : (Result (Unit {0}) Ignored → Bool) → List Entry → ℕ
deliveries_with test entries = count_by (λ e. passes_test test (frame_answer e.reply)) entries

-- the number of frames that were accepted
abbrev pub accepted_in : List Entry → ℕ
accepted_in entries = deliveries_with is_accepted entries

-- the number of frames that were ignored for a cause
abbrev pub ignored_in : Ignored → List Entry → ℕ
ignored_in cause entries = deliveries_with (is_ignored_for cause) entries
