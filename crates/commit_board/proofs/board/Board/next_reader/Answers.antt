use Rattle.std.proofs.Common.{sym, ◌∙◌}
use Rattle.commit_board.proofs.Makes.{makes_reader}
use Rattle.commit_board.proofs.board.Board.next_reader.Goals as goal

pub split_seat-seat-requires : goal.split_seat-seat-requires
split_seat-seat-requires c = (c.requires.board ∙ sym c.self.view_is, c.self.invariant.1, makes_reader _ _ _)
