use Rattle.std.proofs.Common.{ℕ, ◌<◌, sym, ap, ◌∙◌, subst, rules}
use Rattle.atomic_table.specs.Seated.{TableId}
use Rattle.commit_board.specs.Seats.{ReaderSeatView}
use Rattle.commit_board.proofs.Moves.{loads}
use Rattle.commit_board.proofs.board.Board.read.Goals as goal

pub load-found-requires : goal.load-found-requires
load-found-requires c =
    let i = c.seat.invariant in
    let word = c.from-word.ensures ∙ c.number.ensures in
    let within : c.from-word.result < c.self.inside.table.shared.table_id.words =
    subst (λ (y : ℕ × TableId). y.0 < y.1.words) (λ k. (sym word k, sym c.self.view_is k)) c.requires.replica in
    let key : c.from-word.result < c.self.inside.table.shared.key =
    subst (λ (m : ℕ). c.from-word.result < m) (sym c.self.invariant.0) within in
    (ap (λ (s : ReaderSeatView). s.board) c.seat.view_is ∙ c.requires.board ∙ sym c.self.view_is, within, loads _ _ _ _ _ key i.1 i.2)

pub returns-clause-seen : goal.returns-clause-seen
returns-clause-seen c = search rules

pub returns-clause-rises : goal.returns-clause-rises
returns-clause-rises c = search rules

pub returns-clause-last : goal.returns-clause-last
returns-clause-last c = search rules

pub returns-clause-step : goal.returns-clause-step
returns-clause-step c = search rules
