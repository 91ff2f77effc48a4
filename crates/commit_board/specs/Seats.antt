-- A commit board and its seats as contracts see them, and the outcomes of its calls.
use Rattle.std.specs.Prelude.{◌≡◌, ℕ, ◌≤◌, List, [], ◌∷◌, ◌++◌, map, Some, slice_get}
use Rattle.std.specs.List.{All, Contains, range_with_len}
use Rattle.atomic_table.specs.Seated.{TableId}
use Rattle.ledger_model.specs.Boards.{Board, IsBoard, Reads, Raises}

-- the identity of a board
abbrev pub BoardId : Type 0
BoardId = TableId

-- the number of replicas that have a word
abbrev pub replicas_of : BoardId → ℕ
replicas_of board = board.words

-- a writer's seat: its board, its replica, and the greatest height published through it
pub record WriterSeatView : Type 0 where
  pub board : BoardId
  pub replica : ℕ
  pub height : ℕ

-- a reader's seat: its board, the (replica, height) pairs that it loaded, in order, and the pairs of the writers' seats
-- that were handed back to it
pub record ReaderSeatView : Type 0 where
  pub board : BoardId
  pub seen : List (ℕ × ℕ)
  pub closed : List (ℕ × ℕ)

-- a writer's seat through which nothing was published
abbrev pub new_writer : BoardId → ℕ → WriterSeatView
new_writer board replica = record { board = board; replica = replica; height = 0 }

-- a reader's seat that has read nothing yet
abbrev pub new_reader : BoardId → ReaderSeatView
new_reader board = record { board = board; seen = []; closed = [] }

-- Some board, by the rule, allows this step: a reader that had read `before` reads the height of r. A clause can't name the
-- board that the step really met, so it constrains the height only by what the seats know.
pub record ReadAtOnce (before : List (ℕ × ℕ)) (r height : ℕ) (after : List (ℕ × ℕ)) : Type 0 where
  pub old : Board
  pub new : Board
  pub reader : ℕ
  pub was : IsBoard old
  pub had : slice_get old.readers reader ≡ Some before
  pub reads : Reads old reader r height new
  pub is : IsBoard new
  pub has : slice_get new.readers reader ≡ Some after

-- Some board, by the rule, allows this step: the word of r, to which `before` had been published, is raised to the height.
pub record RaisedAtOnce (before r height after : ℕ) : Type 0 where
  pub old : Board
  pub new : Board
  pub was : IsBoard old
  pub had : slice_get old.writers r ≡ Some before
  pub raises : Raises old r height new
  pub is : IsBoard new
  pub has : slice_get new.writers r ≡ Some after

-- if r's writer's seat was handed back, the height is the one that it had published
abbrev pub IsLast : List (ℕ × ℕ) → ℕ → ℕ → Type 0
IsLast closed r height = (k last : ℕ) → slice_get closed k ≡ Some (r, last) → height ≡ last

-- each of these (replica, height) pairs is such a read, in order, by a reader that had read `before`, each on some board
abbrev pub ReadOneByOne : List (ℕ × ℕ) → List (ℕ × ℕ) → Type 0
ReadOneByOne before [] = Unit {0}
ReadOneByOne before (p ∷ ps) = ReadAtOnce before p.0 p.1 (before ++ p ∷ []) × ReadOneByOne (before ++ p ∷ []) ps

-- the reader read these (replica, height) pairs: one of each replica below `count`, in order of number
pub record ReadsInOrder (old new : ReaderSeatView) (count : ℕ) (reads : List (ℕ × ℕ)) : Type 0 where
  pub each : map (λ p. p.0) reads ≡ range_with_len 0 count
  pub seen : new ≡ record old { seen = old.seen ++ reads }
  pub steps : ReadOneByOne old.seen reads

-- the reader read each replica of the board once, in order of number, and this is the least of the heights that it read
pub record IsLeastRead (old new : ReaderSeatView) (board : BoardId) (least : ℕ) : Type 0 where
  pub reads : List (ℕ × ℕ)
  pub in_order : ReadsInOrder old new (replicas_of board) reads
  pub below : All (λ p. least ≤ p.1) reads
  pub one : Contains (map (λ p. p.1) reads) least
