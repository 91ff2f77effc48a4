-- A transaction of code 0 moves its amount, and another leaves the accounts.
use Rattle.std.proofs.Common.{◌∙◌, sym}
use Rattle.app_kinds.proofs.Refused.{code_of-not_zero}
use Rattle.ledger_model.specs.Kinds.{purse}
use Rattle.app_states.proofs.Accepted.{state-kept}
use Rattle.app_kinds.proofs.Accounting.{accounts-of_bytes, state-transferred}
use Rattle.app_kinds.proofs.accounts.AccountsAppState.deliver.Goals as goal

pub returns-in-Ok : goal.returns-in-Ok
returns-in-Ok c = λ txs e.
    let accounts = accounts-of_bytes txs c.args.self.now c.transfer.ensures.fit e in
    let passes = c.in-Ok.ensures.passes txs e in
    (sym passes, state-transferred txs c.args.tx.now _ _ c.in-Ok.transfer accounts passes c.in-Ok.ensures.transfer c.transfer.ensures.moved)

pub returns-in-Err : goal.returns-in-Err
returns-in-Err c = λ txs e.
    let refused = c.in-Err.ensures.refused txs e in
    (c.code.ensures ∙ sym refused, state-kept purse txs c.args.tx.now _ e (rw refused (code_of-not_zero c.in-Err.refusal)))
