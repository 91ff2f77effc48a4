-- Each account adds its balance and its nonce.
use Rattle.std.proofs.Common.{[], take_all}
use Rattle.ledger_model.specs.Kinds.{purse_bytes}
use Rattle.app_kinds.proofs.Transfers.{bytes-more}
use Rattle.app_kinds.proofs.accounts.hash_of.Goals as goal

pub loop-account-init : goal.loop-account-init
loop-account-init c = c.update.ensures [] c.new-hasher.ensures

pub loop-account-preserved : goal.loop-account-preserved
loop-account-preserved c =
    rw (bytes-more c.args.accounts.now c.loop-account.account-index c.loop-account-test.true c.to_be_bytes.result
    c.to_be_bytes-in-loop-account.result c.to_be_bytes.ensures c.to_be_bytes-in-loop-account.ensures)
    (c.update-in-loop-account-2.ensures _ (c.update-in-loop-account.ensures _ c.loop-account.invariant))

pub returns : goal.returns
unfolding purse_bytes
returns c = c.finalize.ensures _
    (rw (take_all c.loop-account.account-index c.args.accounts.now c.loop-account-test.false) at c.loop-account.invariant)
