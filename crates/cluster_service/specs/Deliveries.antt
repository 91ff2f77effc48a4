-- What became of a transaction, by a replica's history.
use Rattle.ledger_model.specs.Meanings.{Meanings}
use Rattle.std.specs.Prelude.{ℕ, ◌≤◌, List, [], ◌∷◌, position, slice_get, Option, Some, None, option_and_then, option_map, Ok, ◌≡◌, drop}
use Rattle.std.specs.Option.{option_or}
use Rattle.std.specs.Str.{bytes_eq}
use Rattle.ledger_model.specs.Commits.{commits_of}
use Rattle.ledger_model.specs.Lawful.{Replay}
use Rattle.ledger_model.specs.Values.{Value}
use Rattle.ledger_model.specs.declared.history.Entry.{Entry}
use Rattle.ledger_model.specs.declared.reply.BlockResult.{BlockResult}
use Rattle.ledger_model.specs.declared.reply.Reply.{Reply}
use Rattle.ledger_model.specs.declared.reply.Reply.TheVariants as reply
use Rattle.locked_replica.specs.States.{StateView}
use Rattle.replica_core.specs.Facts.{block_at}

-- the code that the application returned for the first of these transactions that is this one
abbrev pub code_for : Value → List ℕ → List ℕ → Option ℕ
code_for txs codes tx = option_and_then (slice_get codes) (position (λ t. bytes_eq t tx) txs)

-- the code for a transaction in a block, by the committed batches
abbrev pub code_in : List Value → BlockResult → List ℕ → Option ℕ
code_in batches block tx = option_and_then (λ txs. code_for txs block.codes tx) (block_at batches block.height)

-- the height of the block and the code for a transaction, if the reply is that a block was run which has it
abbrev pub delivered_by : List Value → Reply → List ℕ → Option (ℕ × ℕ)
delivered_by batches (reply.Executed (Ok block)) tx = option_map (λ code. (block.height, code)) (code_in batches block tx)
delivered_by batches _ tx = None

-- the first block among these entries that has the transaction
abbrev pub delivered_in : List Value → List Entry → List ℕ → Option (ℕ × ℕ)
delivered_in batches [] tx = None
delivered_in batches (e ∷ es) tx = option_or (delivered_by batches e.reply tx) (delivered_in batches es tx)

-- the state, whose history is lawful, has run a block at this height, by the entry with this index or a later one; the block has the
-- transaction, and the application returned this code for it
pub record IsDelivery (meaning : Meanings) (tx : List ℕ) (index height code : ℕ) (state : StateView) : Type 0 where
  pub replay : Replay meaning state.config state.ring state.id state.entries
  pub after : ℕ
  pub later : index ≤ after
  pub found : delivered_in (commits_of state.config state.id state.entries) (drop after state.entries) tx ≡ Some (height, code)
