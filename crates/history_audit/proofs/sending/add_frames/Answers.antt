use Rattle.std.proofs.Common.{◌+◌, drop, sym, subst, ap, ◌∙◌}
use Rattle.ledger_model.specs.declared.reply.Sent.{Sent}
use Rattle.history_audit.specs.Tables.{Gains, statements_bytes, statements_of}
use Rattle.ledger_model.proofs.Items.{drop_item}
use Rattle.history_audit.proofs.Tables.{gains_both, statements_of-cons}
use Rattle.history_audit.proofs.sending.add_frames.Goals as goal

pub loop-sent-preserved : goal.loop-sent-preserved
loop-sent-preserved c final gains =
    let i = c.loop-sent.sent-index in
    let frames = c.args.frames.now in
    let sent : Sent = c.sent-item.result in
    let rest = drop_item frames i sent c.loop-sent-test.true c.sent-item.is in
    c.loop-sent.invariant final
    (subst (λ bytes. Gains c.loop-sent.table c.args.replica bytes final)
    (sym (ap (λ xs. statements_bytes (statements_of xs)) rest ∙ statements_of-cons sent (drop (i + 1) frames)))
    (gains_both _ _ _ c.args.replica _ _ c.in_ok-add_frame.ensures gains))
