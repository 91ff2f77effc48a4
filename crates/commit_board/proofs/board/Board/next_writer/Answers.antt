use Rattle.std.proofs.Common.{ℕ, ◌<◌, sym, ap, ◌∙◌, subst}
use Rattle.atomic_table.specs.Seated.{TableId}
use Rattle.commit_board.proofs.Makes.{makes_writer}
use Rattle.commit_board.proofs.board.Board.next_writer.Goals as goal

pub split_seat-seat-requires : goal.split_seat-seat-requires
split_seat-seat-requires c =
    let m = c.requires.maker in
    let words = ap (λ (t : TableId). t.words) (sym c.self.view_is) ∙ sym c.self.invariant.0 in (
      c.requires.board ∙ sym c.self.view_is,
      c.self.invariant.1,
      makes_writer _ _ _ m.0 m.1
          (subst (λ (y : ℕ × ℕ). y.0 < y.1) (λ k. (sym m.2 k, words k)) c.requires.replica),
    )
