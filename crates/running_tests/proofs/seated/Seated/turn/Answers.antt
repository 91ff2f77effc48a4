use Rattle.ledger_model.specs.Kinds.{meaning_of}
use Rattle.std.proofs.Common.{◌≡◌, ap, sym, ◌∙◌, rules}
use Rattle.commit_board.specs.Seats.{WriterSeatView}
use Rattle.running_tests.proofs.Taken.{number_kept}
use Rattle.running_tests.proofs.seated.Seated.turn.Goals as goal

pub invariant_of-self-clause-own : goal.invariant_of-self-clause-own
invariant_of-self-clause-own c =
    let own : c.args.self.now.seat.replica ≡ c.args.self.now.state.id = search rules in
    ap (λ (s : WriterSeatView). s.replica) c.turn.ensures.seat ∙ own
    ∙ sym (number_kept meaning_of c.turn.result c.args.events.items c.args.self.now.state c.turn.new.state c.turn.ensures.applied
    c.turn.ensures.refused)
