-- Why a lock isn't valid, and when a statement counts as signed.
use Rattle.std.specs.Prelude.{◌==◌, ℕ, Bool, not, ◌&&◌, IsTrue, List, [], ◌∷◌, Result, Ok, Err}
use Rattle.std.specs.List.{list_all}
use Rattle.ledger_model.specs.declared.config.Config.{Config}
use Rattle.ledger_model.specs.declared.statement.SignedReport.{SignedReport}
use Rattle.ledger_model.specs.declared.statement.Statement.{Statement}
use Rattle.ledger_model.specs.Rounds.{owner_of}
use Rattle.ledger_model.specs.Notes.{Has}
use Rattle.ledger_model.specs.Rules.{Ring, is_signed, with_signature}
use Rattle.ledger_model.specs.Validity.{is_quorate, is_supporting}
use Rattle.lock_proofs.specs.LockTables.{SignedLock, as_statement}
use Rattle.lock_proofs.specs.declared.fault.LockFault.{LockFault}
use Rattle.lock_proofs.specs.declared.fault.LockFault.TheVariants as fault

-- the reports of the proof have their signers' signatures
abbrev pub are_signed : Ring → List SignedReport → Bool
are_signed ring proof = list_all (λ p. is_signed ring (with_signature p)) proof

-- the faults in order, each with whether it applies
abbrev pub faults : Config → Ring → SignedLock → List (Bool × LockFault)
faults config ring s =
    (not (s.lock.signer == owner_of config s.lock.phase), fault.NotOwner)
    ∷ (not (is_signed ring (as_statement s)), fault.BadSignature)
    ∷ (not (is_quorate config s.lock && are_signed ring s.lock.proof), fault.BadProof)
    ∷ (not (is_supporting s.lock), fault.NotSupporting)
    ∷ []

-- some signature of the statement verifies under its signer's key
abbrev pub IsBacked : Ring → Statement → Type 0
IsBacked ring s = (signature : List ℕ) × IsTrue (is_signed ring (record { statement = s; signature = signature }))

-- the signatures in the lock verify: its own, and those of the reports in its proof
pub record SignaturesVerify (ring : Ring) (s : SignedLock) : Type 0 where
  pub own : IsTrue (is_signed ring (as_statement s))
  pub reports : (p : SignedReport) → Has s.lock.proof p → IsTrue (is_signed ring (with_signature p))

-- the result without the lock
abbrev pub without_lock : Result SignedLock LockFault → Result (Unit {0}) LockFault
without_lock (Ok s) = Ok tt
without_lock (Err f) = Err f
