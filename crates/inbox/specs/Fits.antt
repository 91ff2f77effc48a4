-- Why no clause says whether an inbox was full or empty: what a pass knows of it fits both.
use Rattle.std.specs.Prelude.{◌≡◌, ◌≢◌, ℕ, ◌<◌, ◌≤◌, List, [], ◌++◌, length, Some, slice_get}
use Rattle.ledger_model.specs.Inboxes.{Put, Inbox, of_pass, IsInbox}

-- an inbox by its rule: each item is of a pass, and the queue has at most 1024
pub record IsLawfulInbox (b : Inbox) : Type 0 where
  pub is : IsInbox b
  pub strangers : (p : ℕ) → length b.put ≤ p → of_pass p (b.taken ++ b.held) ≡ []

-- some inbox that contains this number of items agrees with what the pass put
pub record FitsInbox (p : ℕ) (items : List Put) (count : ℕ) : Type 0 where
  pub inbox : Inbox
  pub lawful : IsLawfulInbox inbox
  pub own : slice_get inbox.put p ≡ Some items
  pub held : length inbox.held ≡ count

-- whatever a pass put into an inbox, that agrees with a full inbox
abbrev pub FitsFull : Type 0
FitsFull = (b : Inbox) (p : ℕ) (items : List Put) → IsInbox b → slice_get b.put p ≡ Some items → FitsInbox p items 1024

-- and with an empty one
abbrev pub FitsEmpty : Type 0
FitsEmpty = (b : Inbox) (p : ℕ) (items : List Put) → IsInbox b → slice_get b.put p ≡ Some items → FitsInbox p items 0

-- some inbox in which an item waits agrees with what was taken, with the number of passes, and with what every pass but p put
pub record WaitingFit (b : Inbox) (p : ℕ) : Type 0 where
  pub inbox : Inbox
  pub lawful : IsLawfulInbox inbox
  pub taken : inbox.taken ≡ b.taken
  pub passes : length inbox.put ≡ length b.put
  pub others : (q : ℕ) (items : List Put) → q ≢ p → slice_get inbox.put q ≡ Some items → slice_get b.put q ≡ Some items
  pub held : length inbox.held ≡ 1

-- while one pass isn't handed back, whatever the taking pass knows of an empty inbox agrees with one in which an item waits
abbrev pub FitsAnItem : Type 0
FitsAnItem = (b : Inbox) (p : ℕ) → IsLawfulInbox b → b.held ≡ [] → p < length b.put → WaitingFit b p
