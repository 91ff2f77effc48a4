use Rattle.std.proofs.Common.{sym, ap, ◌∙◌}
use Rattle.history_audit.specs.Searches.{least_unsent}
use Rattle.history_audit.proofs.unsent.least_in_frame.Goals as goal

pub loop-part-preserved : goal.loop-part-preserved
loop-part-preserved c =
    let histories = c.args.histories.now in
    ap (λ o. least_unsent histories o c.next.new.self) c.in_ok-least-2.ensures
    ∙ sym (ap (least_unsent histories c.loop-part.least) c.in-Some.ensures.steps) ∙ c.loop-part.invariant
