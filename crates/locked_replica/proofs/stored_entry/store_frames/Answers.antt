use Rattle.std.proofs.Common.{◌≡◌, length, map, take, ap, subst, sym, ◌∙◌}
use Rattle.std.specs.Prelude.{Some, slice_get}
use Rattle.ledger_model.specs.declared.reply.Sent.{Sent}
use Rattle.ledger_model.proofs.Lists.{take_item}
use Rattle.locked_replica.specs.Strings.{with_string}
use Rattle.locked_replica.specs.StoredEntries.{AreSentWithin, sent_of}
use Rattle.locked_replica.proofs.Strings.{extends_more}
use Rattle.locked_replica.proofs.StoredEntries.{one_grown, sent_more, sent_within_more, strings_more}
use Rattle.locked_replica.proofs.stored_entry.store_frames.Goals as goal

pub loop-sent-preserved : goal.loop-sent-preserved
loop-sent-preserved c =
    let x : Sent = c.sent-item.result in
    let old = c.loop-sent.strings in
    let new = c.put.new.self in
    let position = c.in_ok-position.position in
    let same : c.in_ok-clone.field-0 ≡ x.frame = c.in_ok-clone.ensures.cases in
    let put : new ≡ with_string old x.frame = subst (λ frame. new ≡ with_string old frame) same c.in_ok-position.ensures.strings in
    let there : slice_get new position ≡ Some x.frame = c.in_ok-position.ensures.position ∙ ap Some same in
    let so_far = c.loop-sent.invariant in
    let i = c.loop-sent.sent-index in
    record {
      sent = ap (map (sent_of new)) c.in_ok-push.ensures.items
          ∙ sent_more old new x position put there c.loop-sent.stored.items (take i c.args.frames.now) so_far.within so_far.sent
          ∙ sym (take_item c.args.frames.now i x c.loop-sent-test.true c.sent-item.is);
      within = subst (AreSentWithin (length new)) (sym c.in_ok-push.ensures.items)
          (sent_within_more old new x position put there c.loop-sent.stored.items so_far.within);
      strings = strings_more old new x position put there c.args.strings.now c.args.frames.now i c.loop-sent-test.true c.sent-item.is
          so_far.strings;
      grown = extends_more c.args.strings.now old new so_far.grown (one_grown old new x position put there);
    }
