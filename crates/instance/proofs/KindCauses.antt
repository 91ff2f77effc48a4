-- The causes that depend on the statement and the round alone, followed by those of its kind, are all that can apply.
use Rattle.std.proofs.Common.{◌≡◌, ℕ, List, true, arith, Bool, [], ◌∷◌}
use Rattle.std.specs.Prelude.{IsTrue, Ok, Err, not, ◌==◌, ◌&&◌}
use Rattle.ledger_model.specs.declared.reply.Ignored.{Ignored}
use Rattle.ledger_model.specs.declared.statement.SignedStatement.{SignedStatement}
use Rattle.ledger_model.specs.declared.statement.Statement.{Statement}
use Rattle.ledger_model.specs.declared.statement.Statement.TheVariants as statement
use Rattle.ledger_model.specs.Notes.{is_report, is_lock, is_ack}
use Rattle.ledger_model.specs.Rules.{Ring, first_of, has_owner, is_signed}
use Rattle.instance.specs.Instances.{InstanceView}
use Rattle.instance.specs.Reads.{round_causes, row_causes, report_causes, room_causes, lock_causes, ack_causes, cause_of_fault}
use Rattle.ledger_model.specs.declared.reply.Ignored.TheVariants as cause
use Rattle.ledger_model.specs.Rounds.{place_of, owner_of, lock_place}
use Rattle.ledger_model.specs.Validity.{is_quorate, is_supporting}
use Rattle.lock_proofs.specs.LockTables.{SignedLock, as_statement, has_four_others}
use Rattle.lock_proofs.specs.declared.fault.LockFault.{LockFault}
use Rattle.lock_proofs.specs.declared.fault.LockFault.TheVariants as fault
use Rattle.lock_proofs.specs.Faults.{faults, are_signed}
use Rattle.lock_proofs.specs.LockFrames.{lock_in}

-- the first four, where one of them fits
pub early : (row : InstanceView) (ring : Ring) (c : ℕ) (s : SignedStatement) (e : Ignored)
    → first_of (round_causes row c s.statement) ≡ Err e → Err e ≡ first_of (row_causes row ring c s)
early row ring c s e h = grind arith

module _ (row : InstanceView) (ring : Ring) (c : ℕ) (g : List ℕ) (u : Unit {0}) where
  abbrev signed : Statement → SignedStatement
  signed s = record { statement = s; signature = g }

  -- where none of the first four fits
  pub report_answer : (s : Statement) → first_of (round_causes row c s) ≡ Ok u → IsTrue (is_report (λ r. true) s)
      → first_of (report_causes ring (signed s)) ≡ first_of (row_causes row ring c (signed s))
  report_answer (statement.Report r) h kind = grind arith
  report_answer (statement.Lock l) h kind = cc
  report_answer (statement.Ack a) h kind = cc

  pub lock_answer : (s : Statement) → first_of (round_causes row c s) ≡ Ok u → IsTrue (is_lock (λ l. true) s)
      → first_of (lock_causes row ring c (signed s)) ≡ first_of (row_causes row ring c (signed s))
  lock_answer (statement.Report r) h kind = cc
  lock_answer (statement.Lock l) h kind = grind arith
  lock_answer (statement.Ack a) h kind = cc

  pub ack_answer : (s : Statement) → first_of (round_causes row c s) ≡ Ok u → IsTrue (is_ack (λ a. true) s)
      → first_of (ack_causes row ring (signed s)) ≡ first_of (row_causes row ring c (signed s))
  ack_answer (statement.Report r) h kind = cc
  ack_answer (statement.Lock l) h kind = cc
  ack_answer (statement.Ack a) h kind = grind arith

-- by the four tests, of which the first holds
told : (owner signed quorate reports supporting full : Bool) (f : LockFault) → not (not owner) ≡ true
    → Err f ≡ first_of ((not owner, fault.NotOwner) ∷ (not signed, fault.BadSignature) ∷ (not (quorate && reports), fault.BadProof)
    ∷ (not supporting, fault.NotSupporting) ∷ [])
    → Err (cause_of_fault f) ≡ first_of
    ((not signed, cause.BadSignature) ∷ (not (quorate && reports && supporting), cause.BadProof) ∷ (full, cause.TableFull) ∷ [])
told owner signed quorate reports supporting full f is e = grind arith

-- a lock of its phase's owner that is not valid is ignored by the cause that its fault is
pub lock_fault : (row : InstanceView) (ring : Ring) (c : ℕ) (s : Statement) (g : List ℕ) (f : LockFault)
    → IsTrue (is_lock (λ l. true) s) → has_owner row.config s ≡ true
    → Err f ≡ first_of (faults row.config ring (lock_in (record { statement = s; signature = g })))
    → Err (cause_of_fault f) ≡ first_of (lock_causes row ring c (record { statement = s; signature = g }))
lock_fault row ring c (statement.Lock l) g f lock owner e =
    told (l.signer == owner_of row.config l.phase) (is_signed ring (record { statement = statement.Lock l; signature = g }))
    (is_quorate row.config l) (are_signed ring l.proof) (is_supporting l)
    ((place_of c == lock_place) && has_four_others l.value row.table) f owner e
lock_fault row ring c (statement.Report r) g f lock owner e = cc
lock_fault row ring c (statement.Ack a) g f lock owner e = cc

-- by the four tests, which all hold
passed : (owner signed quorate reports supporting full : Bool) (u : Unit {0})
    → Ok u ≡ first_of ((not owner, fault.NotOwner) ∷ (not signed, fault.BadSignature) ∷ (not (quorate && reports), fault.BadProof)
    ∷ (not supporting, fault.NotSupporting) ∷ [])
    → first_of ((full, cause.TableFull) ∷ [])
    ≡ first_of ((not signed, cause.BadSignature) ∷ (not (quorate && reports && supporting), cause.BadProof) ∷ (full, cause.TableFull)
    ∷ [])
passed owner signed quorate reports supporting full u e = grind arith

-- a lock that is valid is ignored for want of room alone
pub lock_room : (row : InstanceView) (ring : Ring) (c : ℕ) (s : SignedLock) → Ok tt ≡ first_of (faults row.config ring s)
    → first_of (room_causes (place_of c == lock_place) row s.lock.value) ≡ first_of (lock_causes row ring c (as_statement s))
lock_room row ring c s e =
    passed (s.lock.signer == owner_of row.config s.lock.phase) (is_signed ring (as_statement s)) (is_quorate row.config s.lock)
    (are_signed ring s.lock.proof) (is_supporting s.lock)
    ((place_of c == lock_place) && has_four_others s.lock.value row.table) tt e
