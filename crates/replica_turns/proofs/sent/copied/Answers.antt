use Rattle.std.proofs.lemmas.Grind.{common_steps}
use Rattle.std.proofs.Common.{◌≡◌, [], ◌∷◌, ◌++◌, Some, slice_get, sym, ap, ◌∙◌, rules, arith}
use Rattle.ledger_model.specs.declared.reply.Sent.{Sent}
use Rattle.replica_turns.proofs.sent.copied.Goals as goal
use Rattle.ledger_model.proofs.Lists.{take-next}

pub loop-index-preserved : goal.loop-index-preserved
loop-index-preserved c =
    let frame : Sent = record { addressee = c.in-Some.sent.addressee; frame = c.in_ok-clone.field-0 } in
    let same : c.in_ok-clone.field-0 ≡ c.in-Some.sent.frame.now = search rules in
    let here : slice_get c.args.ended.now.frames c.loop-index.index ≡ Some frame = rw same (sym c.in-Some.ensures) in
    let grown : c.push.new.self.items ≡ c.loop-index.frames.items ++ frame ∷ [] = search rules in
    grown ∙ (ap (λ xs. xs ++ frame ∷ []) c.loop-index.invariant ∙ sym (take-next c.args.ended.now.frames c.loop-index.index frame here))

pub returns : goal.returns
returns c = grind (arith, common_steps)
