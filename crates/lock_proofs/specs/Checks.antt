-- What the check of a lock in a frame returns, under the keys of a ring.
use Rattle.std.specs.Prelude.{◌≡◌, Result, IfOk, IsOk}
use Rattle.ledger_model.specs.declared.config.Config.{Config}
use Rattle.ledger_model.specs.declared.statement.SignedStatement.{SignedStatement}
use Rattle.ledger_model.specs.Rules.{Ring, first_of}
use Rattle.ledger_model.specs.Validity.{ValidLock}
use Rattle.lock_proofs.specs.LockTables.{SignedLock}
use Rattle.lock_proofs.specs.LockFrames.{lock_in}
use Rattle.lock_proofs.specs.Faults.{faults, IsBacked, SignaturesVerify, without_lock}
use Rattle.lock_proofs.specs.declared.fault.LockFault.{LockFault}

-- the first fault that applies is returned, and a lock if none does
abbrev pub ReturnsFirstFault : Ring → Config → SignedStatement → Result SignedLock LockFault → Type 0
ReturnsFirstFault ring config frame result = without_lock result ≡ first_of (faults config ring (lock_in frame))

-- a lock that is returned is valid
abbrev pub ReturnsValid : Ring → Config → Result SignedLock LockFault → Type 0
ReturnsValid ring config result = IfOk result (λ s. ValidLock (IsBacked ring) config s.lock)

-- a valid lock whose own signatures verify is returned
abbrev pub TakesValid : Ring → Config → SignedStatement → Result SignedLock LockFault → Type 0
TakesValid ring config frame result =
    SignaturesVerify ring (lock_in frame) → ValidLock (IsBacked ring) config (lock_in frame).lock → IsOk result
