use Rattle.std.proofs.Common.{ℕ, ◌<◌, sym, ap, ◌∙◌, subst, rules}
use Rattle.atomic_table.specs.Seated.{TableId}
use Rattle.commit_board.specs.Seats.{WriterSeatView}
use Rattle.commit_board.proofs.Moves.{owns}
use Rattle.commit_board.proofs.board.Board.own.Goals as goal

pub load-height-requires : goal.load-height-requires
load-height-requires c =
    let i = c.seat.invariant in
    let tie = ap (λ (w : WriterSeatView). w.board) c.seat.view_is ∙ c.requires ∙ sym c.self.view_is in
    let word = c.from-word.ensures ∙ c.number.ensures in
    (tie, subst (λ (y : ℕ × TableId). y.0 < y.1.words) (λ k. (sym word k, tie k)) i.4, owns _ _ _ _ _ i.1 (i.3 ∙ sym word))

pub returns-clause-height : goal.returns-clause-height
returns-clause-height c = search rules
