-- The count is that of the accepted transactions.
use Rattle.std.proofs.Common.{arith, ◌∙◌, sym}
use Rattle.app_kinds.proofs.Counting.{check-long, check-count, length-of_bytes}
use Rattle.app_kinds.proofs.count.CountAppState.check.Goals as goal

pub returns-then-tx-gt-NUMBER_LEN : goal.returns-then-tx-gt-NUMBER_LEN
returns-then-tx-gt-NUMBER_LEN c = λ txs e. c.code.ensures ∙ sym (check-long _ c.args.tx.now (omega arith))

pub returns-then-number_of-self : goal.returns-then-number_of-self
returns-then-number_of-self c = λ txs e.
    let h = check-count _ c.args.self.now.accepted c.args.tx.now (length-of_bytes txs _ (omega arith) e) in
    grind (arith, h)

pub returns : goal.returns
returns c = λ txs e.
    let h = check-count _ c.args.self.now.accepted c.args.tx.now (length-of_bytes txs _ (omega arith) e) in
    grind (arith, h)
