use Rattle.std.proofs.Common.{◌∙◌, Ok, length, ap, arith, subst, sym}
use Rattle.std.proofs.lemmas.Grind.{elements}
use Rattle.replica_turns.specs.Clients.{IsReceipt, with_index}
use Rattle.replica_turns.proofs.Clients.{receipt_added, submit_answered}
use Rattle.replica_turns.proofs.client_turns.submit_event.Goals as goal

pub unreachable-requires : goal.unreachable-requires
unreachable-requires g c = grind (arith, elements)

pub unreachable-requires-in-None : goal.unreachable-requires-in-None
unreachable-requires-in-None g c = grind (arith, elements)

pub returns-in-Submitted-Ok-clause-answer : goal.returns-in-Submitted-Ok-clause-answer
returns-in-Submitted-Ok-clause-answer g c =
    let old = c.args.state.now in
    let added = c.in_ok-index.ensures.applied in
    let told = submit_answered (g.A.Application.meaning) old.config old.ring old.id old.entries c.apply.new.self.entries c.args.tx.now
    c.in_ok-bytes.bytes added.reply
    c.in_ok-index.index c.in-Some.entry c.in-Submitted-Ok.field-0 c.in_ok-index.ensures.index c.in_ok-bytes.ensures added.added added.lawful
    (sym c.in-Some.ensures.entry) (sym c.in-Submitted-Ok.ensures) in
    ap Ok c.in_ok-index.ensures.index ∙ ap (with_index (length old.entries)) (sym c.in-Submitted-Ok.field-0-is ∙ told)

pub returns-in-Submitted-Ok-clause-receipt : goal.returns-in-Submitted-Ok-clause-receipt
returns-in-Submitted-Ok-clause-receipt g c =
    let old = c.args.state.now in
    let added = c.in_ok-index.ensures.applied in
    subst (IsReceipt c.apply.new.self.entries c.args.tx.now) (sym (returns-in-Submitted-Ok-clause-answer g c))
    (receipt_added (g.A.Application.meaning) old.config old.ring old.id old.entries c.apply.new.self.entries c.args.tx.now
    c.in_ok-bytes.bytes added.reply
    c.in_ok-bytes.ensures added.added added.lawful)

pub returns-in-Submitted-Err-clause-answer : goal.returns-in-Submitted-Err-clause-answer
returns-in-Submitted-Err-clause-answer g c =
    let old = c.args.state.now in
    let added = c.in_ok-index.ensures.applied in
    let told = submit_answered (g.A.Application.meaning) old.config old.ring old.id old.entries c.apply.new.self.entries c.args.tx.now
    c.in_ok-bytes.bytes added.reply
    c.in_ok-index.index c.in-Some.entry c.in-Submitted-Err.field-0 c.in_ok-index.ensures.index c.in_ok-bytes.ensures added.added added.lawful
    (sym c.in-Some.ensures.entry) (sym c.in-Submitted-Err.ensures) in
    ap (with_index (length old.entries)) (sym c.in-Submitted-Err.field-0-is ∙ told)
