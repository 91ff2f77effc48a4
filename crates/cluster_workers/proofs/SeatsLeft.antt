-- The seats that remain as they are taken one by one: the writers' in ascending order of numbers, and the readers'.
use Rattle.std.proofs.Common.{◌≡◌, ℕ, suc, ◌+◌, ◌-◌, ◌<◌, ◌≤◌, List, ◌∷◌, length, map, sym, ap, ◌∙◌, Some, slice_get}
use Rattle.std.proofs.Common.{arith}
use Rattle.std.specs.List.{All, range_with_len}
use Rattle.std.proofs.lemmas.List.FromFn.{fill_by_all}
use Rattle.std.proofs.lemmas.Option.{get_or_from_slice_get}
use Rattle.commit_board.specs.Seats.{BoardId, WriterSeatView, ReaderSeatView, new_writer, new_reader}
use Rattle.cluster_workers.specs.RunningClusters.{AreDealt}

-- the seats of the replicas from a on, of n
abbrev pub seats_from : BoardId → ℕ → ℕ → List WriterSeatView
seats_from board n a = map (λ r. new_writer board r) (range_with_len a (n - a))

-- the seats that a board deals out are those of all replicas, in order
pub all_dealt : (board : BoardId) (n : ℕ) (seats : List WriterSeatView) → length seats ≡ n
    → ((k : ℕ) → k < n → slice_get seats k ≡ Some (new_writer board k)) → AreDealt board 0 n seats
all_dealt board n seats len dealt =
    fill_by_all (λ r. new_writer board r) seats n (new_writer board 0) len
    (λ k lt. get_or_from_slice_get seats k (new_writer board k) (new_writer board 0) (dealt k lt))

-- none is taken yet
pub all_left : (board : BoardId) (n : ℕ) (seats : List WriterSeatView) → AreDealt board 0 n seats → seats ≡ seats_from board n 0
all_left board n seats dealt =
    let size : n ≡ n - 0 = omega arith in
    dealt ∙ ap (λ k. map (λ r. new_writer board r) (range_with_len 0 k)) size

first_left : (board : BoardId) (n a : ℕ) → a < n → seats_from board n a ≡ new_writer board a ∷ seats_from board n (a + 1)
first_left board n a lt =
    let size : n - a ≡ suc (n - (a + 1)) = omega arith in
    ap (λ k. map (λ r. new_writer board r) (range_with_len a k)) size

-- one is left for each replica that is still to come
pub some_left : (board : BoardId) (n a : ℕ) (left : List WriterSeatView) → a < n → left ≡ seats_from board n a → 0 < length left
some_left board n a left lt is = omega (arith, ap length (is ∙ first_left board n a lt))

-- the one that is taken is that of the next replica, and those after it are left
pub one_taken : (board : BoardId) (n a : ℕ) (left : List WriterSeatView) (x : WriterSeatView) (rest : List WriterSeatView) → a < n
    → left ≡ seats_from board n a → left ≡ x ∷ rest
    → (x ≡ new_writer board a) × (rest ≡ seats_from board n (a + 1))
one_taken board n a left x rest lt is taken = let both = sym taken ∙ is ∙ first_left board n a lt in (cc, cc)

-- the readers' seats that a board deals out are of that board
pub all_reading : (board : BoardId) (n : ℕ) (seats : List ReaderSeatView) → length seats ≤ n
    → ((k : ℕ) → k < n → slice_get seats k ≡ Some (new_reader board))
    → All (λ (s : ReaderSeatView). s.board ≡ board) seats
all_reading board n seats few dealt k d within =
    let here : k < n = omega arith in
    ap (λ (s : ReaderSeatView). s.board) (get_or_from_slice_get seats k (new_reader board) d (dealt k here))

-- the seat that is taken is of the board
pub first_reading : (board : BoardId) (x : ReaderSeatView) (rest : List ReaderSeatView)
    → All (λ (s : ReaderSeatView). s.board ≡ board) (x ∷ rest) → x.board ≡ board
first_reading board x rest all = all 0 x (omega arith)
