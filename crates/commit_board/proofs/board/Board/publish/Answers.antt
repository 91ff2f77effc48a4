use Rattle.std.proofs.Common.{ℕ, ◌<◌, sym, ap, ◌∙◌, subst, arith, rules}
use Rattle.atomic_table.specs.Seated.{TableId}
use Rattle.commit_board.specs.Seats.{WriterSeatView}
use Rattle.commit_board.proofs.Moves.{raises}
use Rattle.commit_board.proofs.board.Board.publish.Goals as goal

pub fetch_max-requires : goal.fetch_max-requires
fetch_max-requires c =
    let i = c.seat.invariant in
    let tie = ap (λ (w : WriterSeatView). w.board) c.seat.view_is ∙ c.requires ∙ sym c.self.view_is in
    let word = c.from-word.ensures ∙ c.number.ensures in (
      tie,
      subst (λ (y : ℕ × TableId). y.0 < y.1.words) (λ k. (sym word k, tie k)) i.4,
      raises _ _ _ _ _ _ i.1 i.2 (i.3 ∙ sym word)
          (omega arith),
    )

pub returns-clause-height : goal.returns-clause-height
returns-clause-height c = search rules

pub returns-clause-step : goal.returns-clause-step
returns-clause-step c = search rules
