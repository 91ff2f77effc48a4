-- The locks that a replica holds, as a list that ascends by value.
use Rattle.std.specs.Prelude.{ℕ, nat_le, Bool, not, ◌&&◌, List, [], ◌∷◌, length, filter, if◌then◌else◌}
use Rattle.ledger_model.specs.declared.statement.Lock.{Lock}
use Rattle.ledger_model.specs.declared.statement.SignedStatement.{SignedStatement}
use Rattle.ledger_model.specs.declared.statement.Statement.TheVariants as statement
use Rattle.ledger_model.specs.Values.{Value, same_value, is_below}

-- a lock and its owner's signature
pub record SignedLock : Type 0 where
  pub lock : Lock
  pub signature : List ℕ

-- the lock as a signed statement
abbrev pub as_statement : SignedLock → SignedStatement
as_statement s = record { statement = statement.Lock s.lock; signature = s.signature }

-- the table with this lock, which replaces one on the same value or is inserted in order
abbrev pub with_lock : SignedLock → List SignedLock → List SignedLock
with_lock s [] = s ∷ []
with_lock s (m ∷ ms) =
    if same_value s.lock.value m.lock.value then s ∷ ms
    else if is_below s.lock.value m.lock.value then s ∷ m ∷ ms
    else m ∷ with_lock s ms

-- four locks on other values are held
abbrev pub has_four_others : Value → List SignedLock → Bool
has_four_others v table = nat_le 4 (length (filter (λ m. not (same_value v m.lock.value)) table))

-- A lock that is read in the lock-release round of phase `now` releases a held lock on another value, if the read
-- lock's phase is from the held lock's phase to `now`.
abbrev pub ends_hold : ℕ → Lock → Lock → Bool
ends_hold now read held = not (same_value held.value read.value) && nat_le held.phase read.phase && nat_le read.phase now

-- the table after the lock was read in the lock-release round of phase `now`
abbrev pub released : ℕ → Lock → List SignedLock → List SignedLock
released now read table = filter (λ m. not (ends_hold now read m.lock)) table
