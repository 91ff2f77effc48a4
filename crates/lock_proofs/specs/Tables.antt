-- Tables of locks: at most four locks, on ascending values.
use Rattle.std.specs.Prelude.{◌≤◌, IsTrue, List, map, length}
use Rattle.lock_proofs.specs.LockTables.{SignedLock}
use Rattle.ledger_model.specs.Values.{Value}
use Rattle.ledger_model.specs.Spelling.{are_ascending}

-- the values of the locks
abbrev pub values_of : List SignedLock → List Value
values_of table = map (λ s. s.lock.value) table

-- at most one lock for each value, at most four locks, in the byte order of the values' encodings
pub record IsTable (table : List SignedLock) : Type 0 where
  pub ascends : IsTrue (are_ascending (values_of table))
  pub few : length table ≤ 4
