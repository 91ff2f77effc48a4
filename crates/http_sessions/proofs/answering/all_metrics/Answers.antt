use Rattle.std.proofs.Common.{refl, ap, subst, ◌∙◌, ◌<◌, ◌++◌, ◌∷◌, [], length, min, inl, inr, None}
use Rattle.std.specs.List.{range_with_len}
use Rattle.http_messages.specs.Answers.{Metrics}
use Rattle.http_sessions.specs.Exchanges.{Inquired, Shows}
use Rattle.http_sessions.specs.Answering.{exchanges_of_metrics}
use Rattle.http_sessions.proofs.Replying.{replied, replied_or_lost}
use Rattle.http_sessions.proofs.answering.all_metrics.Goals as goal

pub returns-then-not-add_metrics-clause-replies : goal.returns-then-not-add_metrics-clause-replies
returns-then-not-add_metrics-clause-replies g c =
    let before = c.add_metrics.new.all.items in
    let met = c.add_metrics.ensures.stranger c.if-not-add_metrics.true in
    replied_or_lost _ _ _ _ _ _ (replied _ _ _ _ _ _ (exchanges_of_metrics before ++ Inquired (Shows (length before) None) ∷ []) _ met.1
    (inr (record {
      stranger = length before;
      below = subst (λ n. length before < n) (c.min-count.ensures ∙ ap (λ n. min n 256) c.count.ensures) met.0;
      before = before;
      each = c.add_metrics.ensures.each;
      asked = refl;
      answer = refl;
    }))
    c.reply_to.ensures)

pub returns-clause-replies : goal.returns-clause-replies
returns-clause-replies g c =
    let all = c.add_metrics.new.all.items in
    let showed = c.add_metrics.ensures.shown c.if-not-add_metrics.false in
    replied_or_lost _ _ _ _ _ _ (replied _ _ _ _ _ _ (exchanges_of_metrics all) _ showed.1
    (inl (record {
      all = all;
      each = c.add_metrics.ensures.each
          ∙ ap (range_with_len 0) (showed.0 ∙ c.min-count.ensures ∙ ap (λ n. min n 256) c.count.ensures);
      asked = refl;
      answer = ap Metrics c.deref.ensures.value;
    }))
    c.reply_to-2.ensures)
