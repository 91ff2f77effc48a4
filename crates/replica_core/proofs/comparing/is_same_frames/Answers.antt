use Rattle.std.proofs.Common.{sym, ◌∙◌, arith}
use Rattle.replica_core.proofs.AlikeFrames.{alike_length, alike_at}
use Rattle.replica_core.proofs.comparing.is_same_frames.Goals as goal

pub returns-then-due-shown-clause-only : goal.returns-then-due-shown-clause-only
returns-then-due-shown-clause-only c = λ alike.
    let apart = c.if-due-shown.true in
    let same = alike_length c.args.due.now c.args.shown.now alike in
    absurd (omega (arith, apart, same))

pub returns-then-not-is_same_sent-clause-only : goal.returns-then-not-is_same_sent-clause-only
returns-then-not-is_same_sent-clause-only c = λ alike.
    let same = c.is_same_sent.ensures.only
    (alike_at c.args.due.now c.args.shown.now c.loop-place.place c.index-due-place.result c.index-shown-place.result c.loop-place-test.true
    alike c.index-due-place.is c.index-shown-place.is) in
    sym c.if-not-is_same_sent.true ∙ same
