-- An inbox and its passes as contracts see them, and the outcomes of its calls.
use Rattle.std.specs.Prelude.{◌≡◌, ℕ, ◌≤◌, List, [], ◌++◌, length, Some, slice_get}
use Rattle.atomic_table.specs.Seated.{TableId}
use Rattle.ledger_model.specs.Inboxes.{Put, of_pass}

-- the identity of an inbox
abbrev pub InboxId : Type 0
InboxId = TableId

-- a putting pass: its inbox, its number, and what it put, in order
pub record PuttingPassView : Type 0 where
  pub inbox : InboxId
  pub number : ℕ
  pub put : List Put

-- the taking pass: its inbox, the number of putting passes, what it took, in order, and what each pass that was handed back had put
pub record TakingPassView : Type 0 where
  pub inbox : InboxId
  pub passes : ℕ
  pub taken : List Put
  pub ended : List (ℕ × List Put)

-- a putting pass of this number that has put nothing yet
abbrev pub new_putter : InboxId → ℕ → PuttingPassView
new_putter inbox number = record { inbox = inbox; number = number; put = [] }

-- the taking pass of an inbox with this number of putting passes, of which nothing was taken yet
abbrev pub new_taker : InboxId → ℕ → TakingPassView
new_taker inbox passes = record { inbox = inbox; passes = passes; taken = []; ended = [] }

-- everything that the passes which were handed back had put was taken, in order
abbrev pub AllTaken : List Put → List (ℕ × List Put) → Type 0
AllTaken taken ended = (k : ℕ) (e : ℕ × List Put) → slice_get ended k ≡ Some e → e.1 ≡ of_pass e.0 taken

-- what a pass put, in order, is what was taken of it followed by what the inbox has of it
pub record IsShared (number : ℕ) (put taken held : List Put) : Type 0 where
  pub kept : put ≡ of_pass number taken ++ of_pass number held
  pub small : length held ≤ 1024
