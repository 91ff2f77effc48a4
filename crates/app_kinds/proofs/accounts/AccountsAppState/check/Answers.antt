-- The account of the sender decides.
use Rattle.std.proofs.Common.{arith, [], ◌∙◌, sym, refl}
use Rattle.ledger_model.specs.Meanings.{accepted_by}
use Rattle.ledger_model.specs.Kinds.{purse}
use Rattle.app_kinds.proofs.Accounting.{accounts-of_bytes}
use Rattle.app_kinds.proofs.Judging.{judged, check-judged, check-misspelled}
use Rattle.app_kinds.proofs.accounts.AccountsAppState.check.Goals as goal

pub returns-in_default : goal.returns-in_default
returns-in_default c = λ txs e. c.code.ensures ∙ sym (check-misspelled _ c.args.tx.now (c.in_default.ensures.none.0 refl))

pub returns-then-transfer-account : goal.returns-then-transfer-account
returns-then-transfer-account c = λ txs e.
    let h = check-judged (accepted_by purse [] txs) c.args.tx.now _ _
    (judged (accepted_by purse [] txs) _ c.args.tx.now c.in-Some.transfer c.account.result
    (accounts-of_bytes txs c.args.self.now c.account.ensures.fit e)
    (λ k. omega (arith, c.type_inv.tx k)) c.in-Some.ensures.read c.account.ensures.balance
    c.account.ensures.nonce) in
    grind (arith, h)

pub returns-then-transfer : goal.returns-then-transfer
returns-then-transfer c = λ txs e.
    let h = check-judged (accepted_by purse [] txs) c.args.tx.now _ _
    (judged (accepted_by purse [] txs) _ c.args.tx.now c.in-Some.transfer c.account.result
    (accounts-of_bytes txs c.args.self.now c.account.ensures.fit e)
    (λ k. omega (arith, c.type_inv.tx k)) c.in-Some.ensures.read c.account.ensures.balance
    c.account.ensures.nonce) in
    grind (arith, h)

pub returns : goal.returns
returns c = λ txs e.
    let h = check-judged (accepted_by purse [] txs) c.args.tx.now _ _
    (judged (accepted_by purse [] txs) _ c.args.tx.now c.in-Some.transfer c.account.result
    (accounts-of_bytes txs c.args.self.now c.account.ensures.fit e)
    (λ k. omega (arith, c.type_inv.tx k)) c.in-Some.ensures.read c.account.ensures.balance
    c.account.ensures.nonce) in
    grind (arith, h)
