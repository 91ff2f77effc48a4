use Rattle.std.proofs.Common.{rules}
use Rattle.std.proofs.lemmas.Fn.{filter_same}
use Rattle.ledger_model.specs.declared.statement.SignedStatement.{SignedStatement}
use Rattle.replica_turns.specs.Arrivals.{is_checked}
use Rattle.replica_turns.proofs.arrivals.keep_checked.Goals as goal

pub returns : goal.returns
returns g c =
    filter_same _ (λ (frame : SignedStatement). is_checked c.args.state.now frame.statement) _ (λ x b f' k. search rules) _ _
    c.retain.ensures.filtered
