use Rattle.std.proofs.Common.{◌≡◌, ◌+◌, ◌%◌, [], Bool, true, false, drop, sym, subst, cond, ◌∙◌}
use Rattle.std.proofs.Math.ListN.{drop_of_length-le}
use Rattle.ledger_model.specs.declared.history.Entry.{Entry}
use Rattle.ledger_model.specs.Audits.{own_sent}
use Rattle.ledger_model.proofs.Items.{drop_item}
use Rattle.history_audit.proofs.Tables.{Reaches, reaches_next, reaches_end, in_a_phase}
use Rattle.history_audit.proofs.sending.add_entries.Goals as goal
use Rattle.history_audit.proofs.sending.add_entries.Goals.{then-is_opened, else-is_opened}

pub loop-entry-preserved : goal.loop-entry-preserved
loop-entry-preserved c =
    let i = c.loop-entry.entry-index in
    let entries = c.args.entries.now in
    let e : Entry = c.entry-item.result in
    let start = c.args.table.now in
    let r = c.args.replica in
    let rest = drop_item entries i e c.loop-entry-test.true c.entry-item.is in
    let before = subst (Reaches start r entries c.loop-entry.table c.loop-entry.clock) rest c.loop-entry.invariant.1 in
    let after = reaches_next start c.loop-entry.table c.add_reply.new.table r c.loop-entry.clock entries (drop (i + 1) entries) e before
    c.in_ok-add_reply.ensures in
    let now : (b : Bool) → c.is_opened.result ≡ b → Reaches start r entries c.add_reply.new.table
    (cond b ((c.loop-entry.clock + 1) % 4) c.loop-entry.clock) (drop (i + 1) entries) =
    λ b is. subst (λ b. Reaches start r entries c.add_reply.new.table (cond b ((c.loop-entry.clock + 1) % 4) c.loop-entry.clock)
    (drop (i + 1) entries)) (sym c.is_opened.ensures ∙ is) after in
    elim c.if-is_opened.branch [
      | then-is_opened w ↦ rw (w.clock-is) (in_a_phase (c.loop-entry.clock + 1), now true w.if-is_opened.true)
      | else-is_opened w ↦ rw (w.clock-is) (c.loop-entry.invariant.0, now false w.if-is_opened.false)
    ]

pub returns : goal.returns
unfolding own_sent
returns c =
    let entries = c.args.entries.now in
    let over : drop c.loop-entry.entry-index entries ≡ [] = drop_of_length-le entries c.loop-entry-test.false in
    reaches_end c.args.table.now c.loop-entry.table c.args.replica c.loop-entry.clock entries
    (subst (Reaches c.args.table.now c.args.replica entries c.loop-entry.table c.loop-entry.clock) over c.loop-entry.invariant.1)
