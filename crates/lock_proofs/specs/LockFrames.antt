-- A lock's frame, as the lock and its owner's signature.
use Rattle.std.specs.Prelude.{true, IsTrue, []}
use Rattle.ledger_model.specs.declared.statement.Lock.{Lock}
use Rattle.ledger_model.specs.declared.statement.SignedStatement.{SignedStatement}
use Rattle.ledger_model.specs.declared.statement.Statement.{Statement}
use Rattle.ledger_model.specs.declared.statement.Statement.TheVariants as statement
use Rattle.ledger_model.specs.Notes.{is_lock}
use Rattle.ledger_model.specs.declared.version.Version.TheVariants.{One}
use Rattle.lock_proofs.specs.LockTables.{SignedLock}

-- the frame is that of a lock
abbrev pub IsLockFrame : SignedStatement → Type 0
IsLockFrame s = IsTrue (is_lock (λ l. true) s.statement)

-- the lock that the statement is; for other statements, an empty lock
abbrev pub lock_of : Statement → Lock
lock_of (statement.Lock l) = l
lock_of (statement.Report r) = record { version = One; height = 0; phase = 0; signer = 0; value = []; proof = [] }
lock_of (statement.Ack a) = record { version = One; height = 0; phase = 0; signer = 0; value = []; proof = [] }

-- the lock of a frame, and its signature
abbrev pub lock_in : SignedStatement → SignedLock
lock_in s = record { lock = lock_of s.statement; signature = s.signature }
