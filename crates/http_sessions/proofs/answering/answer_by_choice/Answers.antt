use Rattle.std.proofs.Common.{◌≡◌, ◌∙◌, ap, arith, min, refl, subst, ℕ, []}
use Rattle.http_sessions.specs.Choosing.{IsChosen, exchanges_of_heights}
use Rattle.http_sessions.proofs.Replying.{replied, replied_after}
use Rattle.http_sessions.proofs.answering.answer_by_choice.Goals as goal

pub returns-then-count-eq0-clause-replies : goal.returns-then-count-eq0-clause-replies
returns-then-count-eq0-clause-replies g c = replied _ _ _ _ _ _ [] _ refl (record {
  some = λ above. absurd (omega (arith, above, c.count.ensures, c.min-count.ensures, c.if-count-eq0.true));
  none = λ _. (refl, refl);
}) c.reply_to.ensures

pub returns-clause-replies : goal.returns-clause-replies
returns-clause-replies g c =
    let found = c.chosen-replica.ensures.found in
    let same : c.min-count.result ≡ min (g.T.Targets.replicas c.args.targets.now) 256 = c.min-count.ensures ∙ ap (λ n. min n 256) c.count.ensures in
    replied_after _ _ _ _ _ c.chosen-replica.new.targets (exchanges_of_heights found.pairs) _ _ found.made
    (λ rest answer answers. record {
      some = λ _. record {
        pairs = found.pairs;
        replica = c.chosen-replica.result;
        height = found.height;
        chosen = subst (λ (n : ℕ). IsChosen c.args.choice n found.pairs c.chosen-replica.result found.height) same found.chosen;
        rest = rest;
        asked = refl;
        answers = answers;
      };
      none = λ none. absurd (omega (arith, none, c.count.ensures, c.min-count.ensures, c.if-count-eq0.false));
    }) c.answer_at.ensures.replies
