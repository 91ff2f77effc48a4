use Rattle.std.proofs.Common.{arith}
use Rattle.std.proofs.lemmas.Grind.{common_steps}
use Rattle.ledger_model.specs.Commits.{submit_reply}
use Rattle.replica_turns.proofs.Clients.{one_submit}
use Rattle.replica_turns.proofs.client_turns.submit.Goals as goal

pub returns-then-is_empty-clause-answer : goal.returns-then-is_empty-clause-answer
unfolding submit_reply
returns-then-is_empty-clause-answer g c = grind (arith, common_steps)

pub returns-then-tx-gt-MAX_LEN-clause-answer : goal.returns-then-tx-gt-MAX_LEN-clause-answer
unfolding submit_reply
returns-then-tx-gt-MAX_LEN-clause-answer g c = grind (arith, common_steps)

pub returns-clause-used : goal.returns-clause-used
returns-clause-used g c = grind (arith, common_steps)

pub returns-then-tx-gt-MAX_LEN-clause-applied : goal.returns-then-tx-gt-MAX_LEN-clause-applied
returns-then-tx-gt-MAX_LEN-clause-applied g c = grind (arith, common_steps)

pub returns-clause-applied : goal.returns-clause-applied
returns-clause-applied g c =
    one_submit (g.A.Application.meaning) c.args.tx.now c.args.state.now c.submit_event.new.state
    (grind (arith, common_steps)) c.in_ok-answer.ensures.applied

pub returns-clause-sound : goal.returns-clause-sound
returns-clause-sound g c = c.in_ok-answer.ensures.sound
