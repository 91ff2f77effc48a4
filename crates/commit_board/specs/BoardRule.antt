-- The rule of a board's table: the invariant of its words and of what each seat saw.
use Rattle.std.specs.Prelude.{◌≡◌, ℕ, ◌+◌, ◌<◌, ◌≤◌, ◌^◌, max, true, false, IsTrue, List, [], ◌∷◌, ◌++◌, map, length, Some, slice_get}
use Rattle.std.specs.Prelude.{slice_index}
use mathlib.Core.Option.{Option, none, some}
use lib.ListN.{get_elem?}
use Rattle.atomic_table.specs.Table.{State, Me, Step}
use Rattle.ledger_model.specs.Boards.{Board, heights_of, rises_to}
use Rattle.commit_board.specs.Seats.{ReadAtOnce, RaisedAtOnce, IsLast}
use Rattle.commit_board.specs.declared.log.Log.{Log}

-- the log of the seat that makes the others, after it made the first `writers` writers
abbrev pub maker_log : ℕ → Log
maker_log writers = record { makes = true; writes = false; replica = writers; height = 0; seen = []; closed = [] }

-- the log of this replica's writer, which published this height
abbrev pub writer_log : ℕ → ℕ → Log
writer_log replica height = record { makes = false; writes = true; replica = replica; height = height; seen = []; closed = [] }

-- the log of a reader that read these pairs, and got back the seats of the writers in `closed`
abbrev pub reader_log : List (ℕ × ℕ) → List (ℕ × ℕ) → Log
reader_log seen closed = record { makes = false; writes = false; replica = 0; height = 0; seen = seen; closed = closed }

-- the board with these words and these logs of its seats
abbrev pub board_of : List ℕ → List Log → Board
board_of words views = record { words = words; writers = words; readers = map (λ v. v.seen) views }

-- a writer's log: its seat is the one of its replica, and the replica's word is what it published
abbrev pub FitsWriter : List ℕ → (ℕ → Option (Option ℕ)) → ℕ → Log → Type 0
FitsWriter words seat k v = v.writes ≡ true → (seat v.replica ≡ some (some k)) × (slice_get words v.replica ≡ Some v.height)

-- a reader's log: the heights that it read of each replica never fall, and are at most the word
abbrev pub FitsReader : List ℕ → Log → Type 0
FitsReader words v = (r : ℕ) → r < length words → IsTrue (rises_to (slice_index words r) (heights_of r v.seen))

-- if a writer's seat was handed back, its replica's word is final
abbrev pub FitsClosed : List ℕ → (ℕ → Option (Option ℕ)) → Log → Type 0
FitsClosed words seat v = (j : ℕ) (e : ℕ × ℕ) → slice_get v.closed j ≡ Some e → (seat e.0 ≡ some none) × (slice_get words e.0 ≡ Some e.1)

-- there is one maker, and the replicas from its number on have no writer yet and word 0
abbrev pub FitsMaker : List ℕ → (ℕ → Option (Option ℕ)) → ℕ → ℕ → Log → Type 0
FitsMaker words seat maker k v =
    v.makes ≡ true → (k ≡ maker) × ((p : ℕ) → v.replica ≤ p → seat p ≡ none)
    × ((p h : ℕ) → v.replica ≤ p → slice_get words p ≡ Some h → h ≡ 0)

-- there are `replicas` words, and all logs fit them
pub record Holds (replicas : ℕ) (words : List ℕ) (views : List Log) : Type 0 where
  pub count : length words ≡ replicas
  pub small : (r h : ℕ) → slice_get words r ≡ Some h → h < 2 ^ 32
  pub seat : ℕ → Option (Option ℕ)
  pub maker : ℕ
  pub writers : (k : ℕ) (v : Log) → get_elem? views k ≡ some v → FitsWriter words seat k v
  pub readers : (k : ℕ) (v : Log) → get_elem? views k ≡ some v → FitsReader words v
  pub closed : (k : ℕ) (v : Log) → get_elem? views k ≡ some v → FitsClosed words seat v
  pub makers : (k : ℕ) (v : Log) → get_elem? views k ≡ some v → FitsMaker words seat maker k v

-- the rule of the table, as an invariant
abbrev pub KeepsBoard : {S : Type 0} → ℕ → State S Log → Type 0
KeepsBoard replicas s = Holds replicas s.words s.views

-- the log with one more pair
abbrev pub with_seen : Log → ℕ → ℕ → Log
with_seen v r height = record v { seen = v.seen ++ (r, height) ∷ [] }

-- the log with this height, if it is the greater one
abbrev pub with_height : Log → ℕ → Log
with_height v height = record v { height = max v.height height }

-- the outcome of a reader's load: the step, the seat before, the loaded word, and the seat after
abbrev pub Found : {S : Type 0} → Step S → Me S Log → ℕ → Me S Log → Type 0
Found s v n w =
    (w ≡ (with_seen v.0 s.word n, v.1)) × (n < 2 ^ 32) × IsTrue (rises_to n (heights_of s.word (v.0.seen ++ (s.word, n) ∷ [])))
    × IsLast v.0.closed s.word n
    × ReadAtOnce v.0.seen s.word n (v.0.seen ++ (s.word, n) ∷ [])

-- the outcome of a writer's load
abbrev pub Owned : {S : Type 0} → Step S → Me S Log → ℕ → Me S Log → Type 0
Owned s v n w = (w ≡ v) × (n ≡ v.0.height) × (n < 2 ^ 32)

-- the outcome of a raise
abbrev pub Raised : {S : Type 0} → Step S → Me S Log → ℕ → Me S Log → Type 0
Raised s v n w = (w ≡ (with_height v.0 s.first, v.1)) × RaisedAtOnce v.0.height s.word s.first (max v.0.height s.first)

-- the maker's log after one more writer
abbrev pub with_writer : Log → Log
with_writer v = record v { replica = v.replica + 1 }

-- the log of the next writer
abbrev pub next_writer : Log → Log
next_writer v = writer_log v.replica 0

-- the log of the next reader
abbrev pub next_reader : Log → Log
next_reader v = reader_log [] []

-- a reader's log after the writer's seat was handed back to it
abbrev pub with_closed : Log → Log → Log
with_closed v w = record v { closed = v.closed ++ (w.replica, w.height) ∷ [] }

-- the log of a writer's seat that was handed back
abbrev pub nobody : Log
nobody = reader_log [] []
