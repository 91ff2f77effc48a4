-- The leaves of a history: how many its statements used, how many the next round end needs, and when a replica has run out.
use Rattle.std.specs.Prelude.{◌≡◌, ℕ, ◌+◌, ◌<◌, ◌==◌, Bool, true, false, not, ◌&&◌, List, [], ◌∷◌, ◌++◌, length, Ok, is_some, if◌then◌else◌}
use Rattle.std.specs.List.{list_any}
use Rattle.std.specs.Option.{option_map_or}
use Rattle.ledger_model.specs.Limits.{max_height}
use Rattle.ledger_model.specs.declared.config.Config.{Config}
use Rattle.ledger_model.specs.declared.history.Entry.{Entry}
use Rattle.ledger_model.specs.declared.reply.Reply.{Reply}
use Rattle.ledger_model.specs.declared.reply.Reply.TheVariants as reply
use Rattle.ledger_model.specs.Values.{Value}
use Rattle.ledger_model.specs.Rounds.{phase_of, place_of, owner_of, count_from, ack_place, lock_place, release_place, report_place}
use Rattle.ledger_model.specs.Notes.{Note, open_of}
use Rattle.ledger_model.specs.Locks.{value_taken, is_supported}
use Rattle.ledger_model.specs.Logs.{log_of, says_mute, is_mute}
use Rattle.ledger_model.specs.Proper.{values_in}
use Rattle.ledger_model.specs.Lawful.{clock_at, is_opened}

-- ---- what the next round end signs

-- some value is supported in phase k: the own initial value, or one that a report of the phase lists as proper or as locked
abbrev pub is_some_supported : Config → List Note → ℕ → Value → Bool
is_some_supported config log k own = list_any (is_supported config log k) (own ∷ values_in (λ p. p.proper ++ p.locked) k log)

-- Whether a replica that isn't mute sends a statement of its own as round c opens, at a height that is open with the value `own`:
-- its report; as the owner, a lock, if some value is supported; to another owner, an acknowledgement of the lock that it took.
abbrev pub is_due_open : Config → ℕ → List Note → ℕ → Value → Bool
is_due_open config id log c own =
    if place_of c == report_place then true
    else if place_of c == lock_place then (owner_of config (phase_of c) == id) && is_some_supported config log (phase_of c) own
    else if place_of c == ack_place then not (owner_of config (phase_of c) == id) && is_some (value_taken log (phase_of c))
    else false

-- the same for the height of any log: nothing is sent if the height isn't open
unfoldable pub is_due : Config → ℕ → List Note → ℕ → Bool
is_due config id log c = option_map_or (is_due_open config id log c) (open_of log) false

-- the number of heights from 1 to n at which it sends a statement as the next round opens after these entries
unfoldable pub due_within : Config → ℕ → List Entry → ℕ → ℕ
due_within config id entries n = count_from 1 n (λ h. is_due config id (log_of config id h entries) (clock_at entries + 1))

-- the number of heights at which it sends a statement as the next round opens
abbrev pub due_by : Config → ℕ → List Entry → ℕ
due_by config id entries = due_within config id entries max_height

-- ---- what was signed

-- the number of its own statements in a reply that opens round c; at place 4 it sends on locks, which it doesn't sign again
abbrev pub signed_count : ℕ → Reply → ℕ
signed_count c (reply.RoundEnded (Ok ended)) = if place_of c == release_place then 0 else length ended.frames
signed_count c _ = 0

-- the number of its own statements that these entries send, if `clock` rounds were opened before
unfoldable pub signed_after : ℕ → List Entry → ℕ
signed_after clock [] = 0
signed_after clock (e ∷ es) = signed_count (clock + 1) e.reply + signed_after (clock + (if is_opened e.reply then 1 else 0)) es

-- the number of its own statements that the whole history sends
abbrev pub signed_by : List Entry → ℕ
signed_by entries = signed_after 0 entries

-- ---- why a replica is mute

-- The history became mute at a round end that had more statements to sign than leaves were left. Each statement sent
-- before had used one leaf, and `lost` leaves were used without a statement.
pub record IsExhausted (config : Config) (id leaves lost : ℕ) (entries : List Entry) : Type 0 where
  pub front : List Entry
  pub turn : Entry
  pub rest : List Entry
  pub split : entries ≡ front ++ turn ∷ rest
  pub loud : is_mute front ≡ false
  pub mute : says_mute turn.reply ≡ true
  pub few : leaves < lost + signed_by front + due_by config id front

-- if the history is mute, the leaves had run out
abbrev pub IsMuteForWant : Config → ℕ → ℕ → ℕ → List Entry → Type 0
IsMuteForWant config id leaves lost entries = is_mute entries ≡ true → IsExhausted config id leaves lost entries

-- What `used` leaves were used for: each statement of its own that the history sends used one, and round ends that failed
-- because memory ran out used the `lost` others. If the history is mute, the leaves had run out.
pub record LeafAccount (config : Config) (id leaves used : ℕ) (entries : List Entry) : Type 0 where
  pub lost : ℕ
  pub count : used ≡ lost + signed_by entries
  pub mute : IsMuteForWant config id leaves lost entries
