-- The index of the last seat of a board.
use Rattle.std.proofs.Common.{◌≡◌, ℕ, ◌<◌, List, [], ◌∷◌, ◌++◌, length, Some, slice_get, refl, sym, subst, ap, length-append, arith}
use Rattle.std.proofs.lemmas.Option.{slice_get_read}
use Rattle.std.proofs.Math.Seq.{get_or-append_seam}
use Rattle.commit_board.specs.Seats.{BoardId, WriterSeatView, new_writer}

pub last_seat : (board : BoardId) (items rest : List WriterSeatView) (x : WriterSeatView) → items ≡ rest ++ x ∷ []
    → ((k : ℕ) → k < length items → slice_get items k ≡ Some (new_writer board k)) → x.board ≡ board
last_seat board items rest x is all =
    let within : length rest < length (rest ++ x ∷ []) = omega (arith, length-append rest (x ∷ [])) in
    let here : slice_get (rest ++ x ∷ []) (length rest) ≡ Some x =
    slice_get_read (rest ++ x ∷ []) _ (length rest) x refl within (sym (get_or-append_seam rest x [] x)) in
    let there : slice_get (rest ++ x ∷ []) (length rest) ≡ Some (new_writer board (length rest)) =
    subst (λ (l : List WriterSeatView). (k : ℕ) → k < length l → slice_get l k ≡ Some (new_writer board k)) is all (length rest) within in
    let same : x ≡ new_writer board (length rest) = cc in
    ap (λ (w : WriterSeatView). w.board) same
