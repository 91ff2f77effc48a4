-- The code of CheckTx, given the blocks.
use Rattle.ledger_model.specs.Meanings.{Meanings}
use Rattle.std.proofs.Common.{◌≡◌, ℕ, List, ap}
use Rattle.std.specs.Prelude.{◌==◌, Bool}
use Rattle.ledger_model.specs.Values.{Value}
use Rattle.ledger_model.specs.Applications.{Machine, run, transactions_of}
use Rattle.ledger_model.specs.Replies.{check_reply}
use Rattle.abci.specs.Meaning.{ChecksTo, without_work}
use Rattle.batch_pool.specs.Pools.{StaysBy}

-- the code is that of the blocks
pub checked_by_blocks : (meaning : Meanings) (m : Machine) (tx : List ℕ) (code : ℕ) → ChecksTo meaning m tx code → (batches : List Value)
    → without_work m ≡ run meaning m.kind batches → code ≡ check_reply meaning m.kind batches tx
unfolding run check_reply
checked_by_blocks meaning m tx code checked batches led = checked (transactions_of batches) (ap (λ (n : Machine). n.committed) led)

pub stays_by : (meaning : Meanings) (m : Machine) (tx : List ℕ) (code : ℕ) (answer : Bool) → ChecksTo meaning m tx code
    → answer ≡ (code == 0) → StaysBy meaning m tx answer
stays_by meaning m tx code answer checked is = λ batches led. rw (← (checked_by_blocks meaning) m tx code checked batches led) is
