-- The results of calls on an application, given the blocks that led to its committed state.
use Rattle.ledger_model.specs.Meanings.{Meanings}
use Rattle.std.specs.Prelude.{◌≡◌, ℕ, List, [], ◌∷◌, ◌++◌, length, Option, Some, None, Result, Ok, Err}
use Rattle.ledger_model.specs.declared.reply.BlockResult.{BlockResult}
use Rattle.ledger_model.specs.declared.reply.QueryAnswer.{QueryAnswer}
use Rattle.ledger_model.specs.declared.reply.NotHeld.{NotHeld}
use Rattle.ledger_model.specs.Values.{Value}
use Rattle.ledger_model.specs.Applications.{Machine, accepted, codes, run, hash_of}
use Rattle.ledger_model.specs.Replies.{block_reply, query_reply}
use Rattle.abci.specs.declared.info.Info.{Info}
use Rattle.abci.specs.declared.info.QueryFault.{QueryFault}
use Rattle.abci.specs.declared.info.QueryFault.TheVariants as fault
use Rattle.abci.specs.Meaning.{state_after}

-- some blocks led to the machine
abbrev pub IsReached : Meanings → Machine → Type 0
IsReached meaning m = (batches : List Value) × (m ≡ run meaning m.kind batches)

-- the result and the new machine are those of running one more block after the blocks that led to the old machine
abbrev pub AddsBlock : Meanings → Machine → Value → BlockResult → Machine → Type 0
AddsBlock meaning old batch block new =
    (batches : List Value) → old ≡ run meaning old.kind batches
    → (block ≡ block_reply meaning old.kind batches batch) × (new ≡ run meaning old.kind (batches ++ batch ∷ []))

-- the reply to a query, given the blocks that led to the machine
abbrev pub IsQueryReply : Meanings → Machine → List ℕ → ℕ → Result QueryAnswer NotHeld → Type 0
IsQueryReply meaning m key height reply = (batches : List Value) → m ≡ run meaning m.kind batches
    → reply ≡ query_reply meaning m.kind batches key height

-- the number of the blocks that led to the machine, and the hash of the state that they led to
abbrev pub ShowsBlocks : Meanings → Machine → Info → Type 0
ShowsBlocks meaning m info =
    (batches : List Value) → m ≡ run meaning m.kind batches → (info.height ≡ length batches) × (info.hash ≡ hash_of meaning m.kind batches)

-- the reply to a query, unless memory ran out
abbrev pub query_answer_of : Result QueryAnswer QueryFault → Option (Result QueryAnswer NotHeld)
query_answer_of (Ok answer) = Some (Ok answer)
query_answer_of (Err fault.NotHeld) = Some (Err (record {}))
query_answer_of (Err fault.NoMemory) = None

-- the codes of the block's transactions and the machine after them, given the transactions before
abbrev pub DeliversAll : Meanings → Machine → List (List ℕ) → List ℕ → Machine → Type 0
DeliversAll meaning old batch answered new =
    (txs : List (List ℕ)) → old.committed ≡ state_after meaning old.kind txs
    → (answered ≡ codes meaning old.kind (accepted meaning old.kind [] txs) batch)
    × (new ≡ record old { working = Some (state_after meaning old.kind (txs ++ batch)) })
