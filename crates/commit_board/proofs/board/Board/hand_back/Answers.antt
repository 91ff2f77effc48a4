use Rattle.std.proofs.Common.{sym, ap, ◌∙◌}
use Rattle.commit_board.specs.Seats.{ReaderSeatView, WriterSeatView}
use Rattle.commit_board.proofs.Makes.{hands_back}
use Rattle.commit_board.proofs.board.Board.hand_back.Goals as goal

pub join_seat-requires : goal.join_seat-requires
join_seat-requires c =
    let i = c.reader.invariant in
    let w = c.writer.invariant in (
      ap (λ (s : ReaderSeatView). s.board) c.reader.view_is ∙ c.requires.reader ∙ sym c.self.view_is,
      ap (λ (s : WriterSeatView). s.board) c.writer.view_is ∙ c.requires.writer ∙ sym c.self.view_is,
      w.0,
      c.self.invariant.1,
      hands_back _ _ _ _ _ i.1 i.2 w.1,
    )
