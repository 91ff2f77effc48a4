use Rattle.std.proofs.Common.{◌++◌, ◌∷◌, [], ◌∙◌, ap}
use Rattle.std.specs.Prelude.{Some}
use Rattle.run_picture.proofs.picture.add_history.Goals as goal

pub returns-clause-adds : goal.returns-clause-adds
returns-clause-adds g c = record {
  count = c.in_ok-count.count;
  marks = c.in_ok-count.ensures.follows;
  shown = c.in_ok-rounds.ensures.shown;
  rounds = c.in_ok-push.ensures.items ∙ ap (λ n. c.args.collected.now.rounds.items ++ Some n ∷ []) c.in_ok-rounds.ensures.rounds;
  breaks = c.break_after-collected.ensures;
}
