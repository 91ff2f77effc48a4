-- The rule of an inbox's queue: the invariant of its items and of what each pass did.
use Rattle.std.specs.Prelude.{◌≡◌, ℕ, ◌+◌, ◌<◌, ◌≤◌, true, false, List, [], ◌∷◌, ◌++◌, length, Some, slice_get}
use mathlib.Core.Option.{Option, none, some}
use lib.ListN.{get_elem?}
use Rattle.crossbeam_queue.specs.Passes.{Pass, view}
use Rattle.ledger_model.specs.Inboxes.{Put, Inbox, of_pass, IsInbox}
use Rattle.inbox.specs.Passes.{AllTaken}
use Rattle.inbox.specs.declared.log.Log.{Log}

-- what a seat at the queue did
abbrev pub seat_log : Pass Put Log → Log
seat_log seat = view seat

-- the log of the pass with this number, which put these items
abbrev pub putter_log : ℕ → List Put → Log
putter_log number items = record { puts = true; takes = false; number = number; items = items; passes = 0; ended = [] }

-- the log of the taking pass: the number of putting passes, the items that it took, and what the passes that were
-- handed back had put
abbrev pub taker_log : ℕ → List Put → List (ℕ × List Put) → Log
taker_log passes items ended = record { puts = false; takes = true; number = 0; items = items; passes = passes; ended = ended }

-- the log of a pass that was handed back
abbrev pub no_pass : Log
no_pass = record { puts = false; takes = false; number = 0; items = []; passes = 0; ended = [] }

-- the log with one more item
abbrev pub with_item : Log → Put → Log
with_item v item = record v { items = v.items ++ item ∷ [] }

-- a putting pass is the one with its number, and its log has what was put under that number
abbrev pub FitsPutter : Inbox → (ℕ → Option ℕ) → ℕ → Log → Type 0
FitsPutter b seat k v = v.puts ≡ true → (seat v.number ≡ some k) × (slice_get b.put v.number ≡ Some v.items)

-- there is one taking pass; its log has what was taken, the number of passes, and what those put that were handed back
pub record FitsTaker (b : Inbox) (seat : ℕ → Option ℕ) (reader k : ℕ) (v : Log) : Type 0 where
  pub one : k ≡ reader
  pub taken : b.taken ≡ v.items
  pub passes : length b.put ≡ v.passes
  pub ended : (j : ℕ) (e : ℕ × List Put) → slice_get v.ended j ≡ Some e → (seat e.0 ≡ none) × (slice_get b.put e.0 ≡ Some e.1)

-- there is one inbox that the queue and all logs agree with
pub record KeepsInbox (held : List Put) (views : List Log) : Type 0 where
  pub inbox : Inbox
  pub is : IsInbox inbox
  pub queue : inbox.held ≡ held
  pub strangers : (p : ℕ) → length inbox.put ≤ p → of_pass p (inbox.taken ++ inbox.held) ≡ []
  pub reader : ℕ
  pub seat : ℕ → Option ℕ
  pub putters : (k : ℕ) (v : Log) → get_elem? views k ≡ some v → FitsPutter inbox seat k v
  pub takers : (k : ℕ) (v : Log) → get_elem? views k ≡ some v → v.takes ≡ true → FitsTaker inbox seat reader k v

-- the item was put
abbrev pub Putting : Log → Put → Log → Type 0
Putting v item w = w ≡ with_item v item

-- the item was taken, and is of one of the passes
abbrev pub Taking : Log → Put → Log → Type 0
Taking v item w = (w ≡ with_item v item) × (item.pass < v.passes)

-- a putting pass learns nothing about the queue, since it doesn't know what others put into it
abbrev pub Beside : Log → List Put → Type 0
Beside v held = Unit {0}

-- what the taking pass knows about a queue with these items
pub record Behind (v : Log) (held : List Put) : Type 0 where
  pub inbox : Inbox
  pub is : IsInbox inbox
  pub taken : inbox.taken ≡ v.items
  pub held_is : inbox.held ≡ held
  pub ended : (j : ℕ) (e : ℕ × List Put) → slice_get v.ended j ≡ Some e → slice_get inbox.put e.0 ≡ Some e.1
  pub all : length held ≡ 0 → AllTaken v.items v.ended

-- the taking pass has one more putting pass
abbrev pub with_pass : Log → Log
with_pass v = record v { passes = v.passes + 1 }

-- the next putting pass
abbrev pub next_pass : Log → Log
next_pass v = putter_log v.passes []

-- the taking pass learns what a putting pass had put
abbrev pub with_ended : Log → Log → Log
with_ended v w = record v { ended = v.ended ++ (w.number, w.items) ∷ [] }
