use Rattle.std.proofs.Common.{◌≤◌, length, sym, ap, ◌∙◌, arith}
use Rattle.http_messages.specs.declared.frame_counts.FrameCounts.{FrameCounts}
use Rattle.http_messages.specs.FrameCounts.{ignored_for, is_accepted, is_ignored_for}
use Rattle.cluster_service.specs.FrameCounting.{frame_answer}
use Rattle.cluster_service.proofs.FrameCountLemmas.{none_counted, one_counted}
use Rattle.cluster_service.proofs.frame_counting.frame_counts.Goals as goal
use Rattle.cluster_service.proofs.frame_counting.frame_counts.Goals.{in-Some-frame_answer, in-None}

pub loop-index-preserved : goal.loop-index-preserved
loop-index-preserved g c =
    let es = c.args.state.now.entries in
    let i = c.loop-index.index in
    let e = c.in-Some.entry in
    let is = sym c.in-Some.ensures.entry in
    let before = c.loop-index.counts in
    let after = c.match-frame_answer.counts in
    let few : length es ≤ 65536 = omega (arith, c.len-index-end.ensures.len, c.len-index-end.ensures.few) in
    elim c.match-frame_answer.branch [
      | in-Some-frame_answer w ↦
          let found = sym (w.in-Some-frame_answer.ensures ∙ ap frame_answer c.reply.ensures) in
          record {
            accepted = one_counted is_accepted es i e is w.in-Some-frame_answer.answer before.accepted after.accepted found few
                c.loop-index.invariant.accepted (ap (λ (k : FrameCounts). k.accepted) w.counts-is ∙ w.count.ensures.accepted);
            ignored = λ cause. one_counted (is_ignored_for cause) es i e is w.in-Some-frame_answer.answer (ignored_for before cause)
                (ignored_for after cause) found few (c.loop-index.invariant.ignored cause)
                (ap (λ k. ignored_for k cause) w.counts-is ∙ w.count.ensures.ignored cause);
          }
      | in-None w ↦
          let none = sym (w.in-None.ensures ∙ ap frame_answer c.reply.ensures) in
          record {
            accepted = ap (λ (k : FrameCounts). k.accepted) w.counts-is ∙ c.loop-index.invariant.accepted
                ∙ none_counted is_accepted es i e is none;
            ignored = λ cause. ap (λ k. ignored_for k cause) w.counts-is ∙ c.loop-index.invariant.ignored cause
                ∙ none_counted (is_ignored_for cause) es i e is none;
          }
    ]
