-- The results of a pool's calls, given the blocks that led to the application's committed state.
use Rattle.ledger_model.specs.Meanings.{Meanings}
use Rattle.std.specs.Prelude.{◌≡◌, ℕ, ◌==◌, Bool, List, Option, Some, None, Result, Ok, Err}
use Rattle.ledger_model.specs.declared.reply.SubmitRefusal.{SubmitRefusal}
use Rattle.ledger_model.specs.declared.reply.SubmitRefusal.TheVariants as refusal
use Rattle.ledger_model.specs.Values.{Value}
use Rattle.ledger_model.specs.Applications.{Machine, run}
use Rattle.ledger_model.specs.Replies.{check_reply}
use Rattle.ledger_model.specs.Pools.{submit_answer, left_after}
use Rattle.abci.specs.Meaning.{without_work}
use Rattle.batch_pool.specs.declared.fault.SubmitFault.{SubmitFault}
use Rattle.batch_pool.specs.declared.fault.SubmitFault.TheVariants as fault

-- the answer to a submit, unless memory ran out
abbrev pub answer_of : Result (Unit {0}) SubmitFault → Option (Result (Unit {0}) SubmitRefusal)
answer_of (Ok u) = Some (Ok tt)
answer_of (Err (fault.Refused f)) = Some (Err f)
answer_of (Err fault.NoMemory) = None

-- the pool's own part of an answer: Ok if CheckTx refused, or memory ran out
abbrev pub pool_part : Result (Unit {0}) SubmitFault → Result (Unit {0}) SubmitRefusal
pool_part (Ok u) = Ok tt
pool_part (Err (fault.Refused refusal.Empty)) = Err refusal.Empty
pool_part (Err (fault.Refused refusal.TooLong)) = Err refusal.TooLong
pool_part (Err (fault.Refused refusal.Duplicate)) = Err refusal.Duplicate
pool_part (Err (fault.Refused refusal.Full)) = Err refusal.Full
pool_part (Err (fault.Refused (refusal.Rejected code))) = Ok tt
pool_part (Err fault.NoMemory) = Ok tt

-- the answer to a submit, given the blocks that led to the application's committed state
abbrev pub AnswersSubmission : Meanings → Machine → Value → List ℕ → Result (Unit {0}) SubmitRefusal → Type 0
AnswersSubmission meaning m pool tx answer =
    (batches : List Value) → without_work m ≡ run meaning m.kind batches
    → answer ≡ submit_answer pool tx (check_reply meaning m.kind batches tx)

-- the transactions that wait after the application ran blocks of which `block` is the last
abbrev pub LeavesWaiting : Meanings → Machine → Value → Value → Value → Type 0
LeavesWaiting meaning m block old new =
    (batches : List Value) → without_work m ≡ run meaning m.kind batches → new ≡ left_after block (check_reply meaning m.kind batches) old

-- whether CheckTx accepts the transaction, given the blocks that led to the application's committed state
abbrev pub StaysBy : Meanings → Machine → List ℕ → Bool → Type 0
StaysBy meaning m tx answer =
    (batches : List Value) → without_work m ≡ run meaning m.kind batches → answer ≡ (check_reply meaning m.kind batches tx == 0)
