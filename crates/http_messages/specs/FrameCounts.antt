-- How many delivered frames a replica accepted, and how many it ignored for each cause.
use Rattle.std.specs.Prelude.{ℕ, ◌+◌, ◌-◌, ◌^◌, ◌==◌, min, Bool, true, false, Result, Ok, Err, slice_index, if◌then◌else◌}
use Rattle.ledger_model.specs.Causes.{cause_number}
use Rattle.ledger_model.specs.declared.reply.Ignored.{Ignored}
use Rattle.http_messages.specs.declared.frame_counts.FrameCounts.{FrameCounts}

-- the place of a cause: causes have the numbers from 1 on
abbrev pub cause_place : Ignored → ℕ
cause_place cause = cause_number cause - 1

-- how many frames were ignored for a cause
abbrev pub ignored_for : FrameCounts → Ignored → ℕ
ignored_for counts cause = slice_index counts.ignored (cause_place cause)

-- a count of frames after another frame, which is of the counted kind or not
abbrev pub counted : Bool → ℕ → ℕ
counted is_of n = if is_of then min (n + 1) (2 ^ 64 - 1) else n

-- whether the answer to a delivered frame accepts it
abbrev pub is_accepted : Result (Unit {0}) Ignored → Bool
is_accepted (Ok u) = true
is_accepted (Err why) = false

-- whether the answer to a delivered frame ignores it for this cause
abbrev pub is_ignored_for : Ignored → Result (Unit {0}) Ignored → Bool
is_ignored_for cause (Ok u) = false
is_ignored_for cause (Err why) = cause_number why == cause_number cause
