use Rattle.std.proofs.Common.{◌≡◌, ◌∙◌, [], rules, subst, sym}
use Rattle.std.specs.Prelude.{All}
use Rattle.std.proofs.lemmas.List.Elements.{All-push}
use Rattle.ledger_model.specs.Kinds.{meaning_of}
use Rattle.ledger_model.specs.Applications.{run}
use Rattle.replica_tests.proofs.memory_tests.refusing_apps.Goals as goal

pub loop-preserved : goal.loop-preserved
loop-preserved c = record {
  count = search rules;
  opening = subst (λ apps. All (λ app. app.app ≡ run meaning_of c.args.kind []) apps) (sym c.in_ok-push.ensures.items)
      (All-push (λ app. app.app ≡ run meaning_of c.args.kind []) c.loop.apps.items c.new-in-loop.result c.loop.invariant.opening
      (c.new-in-loop.ensures.app ∙ c.new.ensures));
}
