-- The account of the sender decides.
use Rattle.std.proofs.Common.{arith, [], refl}
use Rattle.ledger_model.specs.Meanings.{accepted_by}
use Rattle.ledger_model.specs.Kinds.{purse}
use Rattle.app_kinds.proofs.Accounting.{accounts-of_bytes}
use Rattle.app_kinds.proofs.Judging.{judged, code-judged, code-misspelled}
use Rattle.app_kinds.proofs.accounts.test_delivery.Goals as goal

pub returns-in_default-clause-refused : goal.returns-in_default-clause-refused
returns-in_default-clause-refused c = λ txs e. code-misspelled _ c.args.tx.now (c.in_default.ensures.none.0 refl)

pub returns-then-transfer-sender-clause-refused : goal.returns-then-transfer-sender-clause-refused
returns-then-transfer-sender-clause-refused c = λ txs e.
    let h = code-judged (accepted_by purse [] txs) c.args.tx.now _ _
    (judged (accepted_by purse [] txs) _ c.args.tx.now c.in-Some.transfer c.account-sender.result
    (accounts-of_bytes txs c.args.accounts.now c.account-sender.ensures.fit e)
    (λ k. omega (arith, c.type_inv.tx k)) c.in-Some.ensures.read c.account-sender.ensures.balance
    c.account-sender.ensures.nonce) in
    grind (arith, h)

pub returns-then-sender-transfer-clause-refused : goal.returns-then-sender-transfer-clause-refused
returns-then-sender-transfer-clause-refused c = λ txs e.
    let h = code-judged (accepted_by purse [] txs) c.args.tx.now _ _
    (judged (accepted_by purse [] txs) _ c.args.tx.now c.in-Some.transfer c.account-sender.result
    (accounts-of_bytes txs c.args.accounts.now c.account-sender.ensures.fit e)
    (λ k. omega (arith, c.type_inv.tx k)) c.in-Some.ensures.read c.account-sender.ensures.balance
    c.account-sender.ensures.nonce) in
    grind (arith, h)

pub returns-then-transfer-clause-refused : goal.returns-then-transfer-clause-refused
returns-then-transfer-clause-refused c = λ txs e.
    let h = code-judged (accepted_by purse [] txs) c.args.tx.now _ _
    (judged (accepted_by purse [] txs) _ c.args.tx.now c.in-Some.transfer c.account-sender.result
    (accounts-of_bytes txs c.args.accounts.now c.account-sender.ensures.fit e)
    (λ k. omega (arith, c.type_inv.tx k)) c.in-Some.ensures.read c.account-sender.ensures.balance
    c.account-sender.ensures.nonce) in
    grind (arith, h)

pub returns-clause-passes : goal.returns-clause-passes
returns-clause-passes c = λ txs e.
    let h = code-judged (accepted_by purse [] txs) c.args.tx.now _ _
    (judged (accepted_by purse [] txs) _ c.args.tx.now c.in-Some.transfer c.account-sender.result
    (accounts-of_bytes txs c.args.accounts.now c.account-sender.ensures.fit e)
    (λ k. omega (arith, c.type_inv.tx k)) c.in-Some.ensures.read c.account-sender.ensures.balance
    c.account-sender.ensures.nonce) in
    grind (arith, h)
