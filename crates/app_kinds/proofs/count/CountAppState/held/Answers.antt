-- The count is that of the accepted transactions.
use Rattle.std.proofs.Common.{◌∙◌, sym, ap, true, false, Some, ◌≡◌, [], ◌∷◌, arith}
use Rattle.ledger_model.specs.Values.{same_bytes}
use Rattle.app_kinds.proofs.Counting.{held-count, held-nothing, length-of_bytes}
use Rattle.app_kinds.proofs.count.CountAppState.held.Goals as goal

pub returns-in_ok-from_slice : goal.returns-in_ok-from_slice
returns-in_ok-from_slice c = λ txs e.
    let key : same_bytes c.args.key.now (0x63 ∷ 0x6f ∷ 0x75 ∷ 0x6e ∷ 0x74 ∷ []) ≡ true =
    rw (← c.as_slice.ensures) (sym c.eq.ensures ∙ c.if-eq.true) in
    ap Some (c.in_ok-from_slice.ensures.items ∙ c.to_be_bytes.ensures)
    ∙ sym (held-count _ c.args.self.now.accepted c.args.key.now key (length-of_bytes txs _ (omega arith) e))

pub returns-else-eq : goal.returns-else-eq
returns-else-eq c = λ txs e.
    let key : same_bytes c.args.key.now (0x63 ∷ 0x6f ∷ 0x75 ∷ 0x6e ∷ 0x74 ∷ []) ≡ false =
    rw (← c.as_slice.ensures) (sym c.eq.ensures ∙ c.if-eq.false) in
    sym (held-nothing _ c.args.key.now key)
