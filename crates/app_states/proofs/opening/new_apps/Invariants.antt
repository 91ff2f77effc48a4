-- as many as rounds of the loop, each in its opening state
use Rattle.std.proofs.Common.{◌≡◌, [], vec_len}
use Rattle.std.specs.Prelude.{All}
use Rattle.ledger_model.specs.Applications.{run}
use Rattle.app_states.proofs.opening.new_apps.Given as goal

abbrev pub invariant-loop : goal.invariant-loop
invariant-loop g l = record {
  count : vec_len l.apps ≡ l.counter;
  opening : All (λ app. g.A.Application.machine app ≡ run (g.A.Application.meaning) l.kind []) l.apps.items;
}
