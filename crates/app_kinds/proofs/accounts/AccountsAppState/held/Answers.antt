-- A key of one byte names an account.
use Rattle.std.proofs.Common.{◌∙◌, sym, ap, Some, arith}
use Rattle.app_kinds.proofs.Accounting.{accounts-of_bytes}
use Rattle.app_kinds.proofs.Judging.{held-account, held-no_account}
use Rattle.app_kinds.proofs.accounts.AccountsAppState.held.Goals as goal

pub returns : goal.returns
returns c = λ txs e.
    ap Some (c.in_ok-from_slice.ensures.items ∙ c.to_bytes-bytes.ensures)
    ∙ sym (held-account _ c.args.self.now c.args.key.now c.account.result
    (accounts-of_bytes txs c.args.self.now c.account.ensures.fit e) c.if-key-ne1.false (omega (arith, c.type_inv.key 0))
    c.account.ensures.balance c.account.ensures.nonce)

pub returns-then-key-ne1 : goal.returns-then-key-ne1
returns-then-key-ne1 c = λ txs e. sym (held-no_account _ c.args.key.now c.if-key-ne1.true)
