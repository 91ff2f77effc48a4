-- The different byte strings of a history: what was delivered, and the frames that were sent.
use Rattle.std.specs.Prelude.{◌≡◌, ℕ, List, [], ◌∷◌, ◌++◌, map, get_or, Ok, if◌then◌else◌}
use Rattle.std.specs.List.{flat_map}
use Rattle.ledger_model.specs.Pools.{is_among}
use Rattle.ledger_model.specs.declared.event.Event.{Event}
use Rattle.ledger_model.specs.declared.event.Event.TheVariants as event
use Rattle.ledger_model.specs.declared.history.Entry.{Entry}
use Rattle.ledger_model.specs.declared.reply.Reply.{Reply}
use Rattle.ledger_model.specs.declared.reply.Reply.TheVariants as reply

-- the strings, with this one as the last unless it is one of them
abbrev pub with_string : List (List ℕ) → List ℕ → List (List ℕ)
with_string strings s = if is_among strings s then strings else strings ++ s ∷ []

-- the string at a position
abbrev pub string_at : List (List ℕ) → ℕ → List ℕ
string_at strings position = get_or strings position []

-- the strings, with each of these in turn
abbrev pub with_strings : List (List ℕ) → List (List ℕ) → List (List ℕ)
with_strings strings [] = strings
with_strings strings (s ∷ ss) = with_strings (with_string strings s) ss

-- what an event delivers, or the frames that a round end sends
abbrev pub strings_at : Event → Reply → List (List ℕ)
strings_at (event.Deliver bytes) r = bytes ∷ []
strings_at event.RoundEnd (reply.RoundEnded (Ok ended)) = map (λ sent. sent.frame) ended.frames
strings_at _ _ = []

-- the strings of an entry
abbrev pub strings_in : Entry → List (List ℕ)
strings_in e = strings_at e.event e.reply

-- all strings of a history, as often as they come
abbrev pub all_strings : List Entry → List (List ℕ)
all_strings entries = flat_map strings_in entries

-- the different ones, in the order in which they come first
abbrev pub strings_of : List Entry → List (List ℕ)
strings_of entries = with_strings [] (all_strings entries)

-- both lists have the same strings
abbrev pub HaveSame : List (List ℕ) → List (List ℕ) → Type 0
HaveSame xs ys = (s : List ℕ) → is_among xs s ≡ is_among ys s

-- the new strings are the old ones, and perhaps more after them
pub record Extends (old new : List (List ℕ)) : Type 0 where
  pub more : List (List ℕ)
  pub is : new ≡ old ++ more
