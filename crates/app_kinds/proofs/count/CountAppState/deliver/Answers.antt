-- A transaction of code 0 is one more, and another leaves the count.
use Rattle.std.proofs.Common.{◌∙◌, sym, arith}
use Rattle.app_kinds.proofs.Counting.{length-of_bytes, state-passes}
use Rattle.ledger_model.specs.Kinds.{counter}
use Rattle.app_states.proofs.Accepted.{state-kept}
use Rattle.app_kinds.proofs.Refused.{code_of-not_zero}
use Rattle.app_kinds.proofs.count.CountAppState.deliver.Goals as goal

pub returns-in-Ok : goal.returns-in-Ok
returns-in-Ok c = λ txs e.
    let count = length-of_bytes txs _ (omega arith) e in
    let passes = c.in-Ok.ensures.passes _ count in
    (sym passes, state-passes txs c.args.tx.now _ count passes)

pub returns-in-Err : goal.returns-in-Err
returns-in-Err c = λ txs e.
    let refused = c.in-Err.ensures.refused _ (length-of_bytes txs _ (omega arith) e) in
    (c.code.ensures ∙ sym refused, state-kept counter txs c.args.tx.now _ e (rw refused (code_of-not_zero c.in-Err.refusal)))
