-- as many as rounds of the loop, each in its opening state
use Rattle.std.proofs.Common.{◌≡◌, [], vec_len}
use Rattle.std.specs.Prelude.{All}
use Rattle.ledger_model.specs.Kinds.{meaning_of}
use Rattle.ledger_model.specs.Applications.{run}
use Rattle.replica_tests.proofs.memory_tests.refusing_apps.Given as goal

abbrev pub invariant-loop : goal.invariant-loop
invariant-loop l = record {
  count : vec_len l.apps ≡ l.counter;
  opening : All
      (λ app. app.app ≡ run meaning_of l.kind []) l.apps.items;
}
