-- What bytes read as, if anything. That reading inverts encoding is a law.
use Rattle.std.specs.Prelude.{ℕ, zero, suc, ◌==◌, nat_le, Bool, true, false, ◌&&◌, List, [], ◌∷◌, length, take, drop, Option, Some, None}
use Rattle.std.specs.Prelude.{if◌then◌else◌}
use Rattle.ledger_model.specs.Limits.{max_tx_len, max_signature_len}
use Rattle.ledger_model.specs.Versions.{reads, batch_limit, body_limit}
use Rattle.ledger_model.specs.declared.version.Version.{Version}
use Rattle.ledger_model.specs.declared.version.Version.TheVariants.{One, Two}
use Rattle.std.specs.Int.{Width, w16, w32, byte_len, from_be_bytes}
use Rattle.ledger_model.specs.declared.statement.Report.{Report}
use Rattle.ledger_model.specs.declared.statement.Lock.{Lock}
use Rattle.ledger_model.specs.declared.statement.Ack.{Ack}
use Rattle.ledger_model.specs.declared.statement.SignedReport.{SignedReport}
use Rattle.ledger_model.specs.declared.statement.SignedStatement.{SignedStatement}
use Rattle.ledger_model.specs.declared.statement.Statement.{Statement}
use Rattle.ledger_model.specs.declared.statement.Statement.TheVariants as statement
use Rattle.ledger_model.specs.Values.{Value}
use Rattle.ledger_model.specs.Notes.{version_of}
use Rattle.ledger_model.specs.Validity.{ascends_within, signers_of}
use Rattle.ledger_model.specs.Spelling.{are_ascending}

-- runs f on what was read, if anything was
infixl 10 ◌>>=◌
abbrev pub ◌>>=◌ : {A B : Type 0} → Option A → (A → Option B) → Option B
(Some x) >>= f = f x
None >>= f = None

-- x, if the test is true
abbrev pub only_if : {A : Type 0} → Bool → A → Option A
only_if test x = if test then Some x else None

-- what was read, if the test is true
abbrev pub guarded : {A : Type 0} → Bool → Option A → Option A
guarded test read = if test then read else None

-- the first n bytes, and the rest
abbrev pub bytes_at : ℕ → List ℕ → Option (List ℕ × List ℕ)
bytes_at n bytes = only_if (nat_le n (length bytes)) (take n bytes, drop n bytes)

-- the first byte, and the rest
abbrev pub byte_at : List ℕ → Option (ℕ × List ℕ)
byte_at [] = None
byte_at (b ∷ bytes) = Some (b, bytes)

-- a number of this width, big-endian
abbrev pub number_at : Width → List ℕ → Option (ℕ × List ℕ)
number_at w bytes = do
  n ← bytes_at (byte_len w) bytes
  Some (from_be_bytes w n.0, n.1)

-- a transaction: its length, 1 to 64, and that many bytes
unfoldable pub tx_at : List ℕ → Option (List ℕ × List ℕ)
tx_at bytes = do
  len ← byte_at bytes
  guarded (nat_le 1 len.0 && nat_le len.0 max_tx_len) (bytes_at len.0 len.1)

-- n transactions
unfoldable pub txs_at : ℕ → List ℕ → Option (Value × List ℕ)
txs_at zero bytes = Some ([], bytes)
txs_at (suc n) bytes = do
  tx ← tx_at bytes
  rest ← txs_at n tx.1
  Some (tx.0 ∷ rest.0, rest.1)

-- a value in a statement of this version: the number of its transactions, at most 16 or 64, and the transactions
unfoldable pub value_at : Version → List ℕ → Option (Value × List ℕ)
value_at version bytes = do
  count ← byte_at bytes
  guarded (nat_le count.0 (batch_limit version)) (txs_at count.0 count.1)

-- n values
unfoldable pub values_at : Version → ℕ → List ℕ → Option (List Value × List ℕ)
values_at version zero bytes = Some ([], bytes)
values_at version (suc n) bytes = do
  first ← value_at version bytes
  rest ← values_at version n first.1
  Some (first.0 ∷ rest.0, rest.1)

-- at most four values, ascending
unfoldable pub list_at : Version → List ℕ → Option (List Value × List ℕ)
list_at version bytes = do
  count ← byte_at bytes
  vs ← guarded (nat_le count.0 4) (values_at version count.0 count.1)
  only_if (are_ascending vs.0) vs

-- a signature: its length, at most 2508, and its bytes
unfoldable pub signature_at : List ℕ → Option (List ℕ × List ℕ)
signature_at bytes = do
  len ← number_at w16 bytes
  guarded (nat_le len.0 max_signature_len) (bytes_at len.0 len.1)

-- a height or a phase: 1 or more
unfoldable pub positive_at : List ℕ → Option (ℕ × List ℕ)
positive_at bytes = do
  n ← number_at w32 bytes
  only_if (nat_le 1 n.0) n

-- 0 or 1
unfoldable pub flag_at : List ℕ → Option (Bool × List ℕ)
flag_at [] = None
flag_at (zero ∷ bytes) = Some (false, bytes)
flag_at (suc zero ∷ bytes) = Some (true, bytes)
flag_at (suc (suc b) ∷ bytes) = None

-- the fields of every statement that follow its first byte: height, phase and signer
pub record Header : Type 0 where
  pub height : ℕ
  pub phase : ℕ
  pub signer : ℕ

-- a height, a phase and a signer
unfoldable pub place_at : List ℕ → Option (Header × List ℕ)
place_at bytes = do
  height ← positive_at bytes
  phase ← positive_at height.1
  signer ← byte_at phase.1
  Some (record { height = height.0; phase = phase.0; signer = signer.0 }, signer.1)

-- a report of this version, without its first byte
unfoldable pub report_at : Version → List ℕ → Option (Report × List ℕ)
report_at version bytes = do
  place ← place_at bytes
  all ← flag_at place.1
  initial ← value_at version all.1
  proper ← list_at version initial.1
  locked ← guarded (nat_le 1 (length proper.0)) (list_at version proper.1)
  Some (
    record {
      version = version;
      height = place.0.height;
      phase = place.0.phase;
      signer = place.0.signer;
      all = all.0;
      initial = initial.0;
      proper =
          proper.0;
      locked = locked.0;
    },
    locked.1,
  )

-- the version of a report that starts with this byte, in a lock of this version: 01, or in a lock of version 2 also 11
abbrev pub report_version : Version → ℕ → Option Version
report_version version first =
    if first == 0x01 then Some One else if first == 0x11 then only_if (reads version Two) Two else None

-- a signed report in a lock of this version, with its first byte
unfoldable pub signed_at : Version → List ℕ → Option (SignedReport × List ℕ)
signed_at version bytes = do
  first ← byte_at bytes
  own ← report_version version first.0
  report ← report_at own first.1
  signature ← signature_at report.1
  Some (record { report = report.0; signature = signature.0 }, signature.1)

-- n signed reports in a lock of this version
unfoldable pub proof_at : Version → ℕ → List ℕ → Option (List SignedReport × List ℕ)
proof_at version zero bytes = Some ([], bytes)
proof_at version (suc n) bytes = do
  first ← signed_at version bytes
  rest ← proof_at version n first.1
  Some (first.0 ∷ rest.0, rest.1)

-- a lock of this version, without its first byte: 3 to 12 reports, whose signers ascend
unfoldable pub lock_at : Version → List ℕ → Option (Lock × List ℕ)
lock_at version bytes = do
  place ← place_at bytes
  v ← value_at version place.1
  count ← byte_at v.1
  reports ← guarded (nat_le 3 count.0 && nat_le count.0 12) (proof_at version count.0 count.1)
  only_if (ascends_within 0 256 (signers_of reports.0)) (
    record {
      version = version;
      height = place.0.height;
      phase = place.0.phase;
      signer = place.0.signer;
      value = v.0;
      proof =
          reports.0;
    },
    reports.1,
  )

-- an acknowledgement of this version, without its first byte
unfoldable pub ack_at : Version → List ℕ → Option (Ack × List ℕ)
ack_at version bytes = do
  place ← place_at bytes
  v ← value_at version place.1
  Some (record { version = version; height = place.0.height; phase = place.0.phase; signer = place.0.signer; value = v.0 }, v.1)

-- a report, a lock or an acknowledgement of this version, as a statement
abbrev pub as_report : Version → List ℕ → Option (Statement × List ℕ)
as_report version bytes = report_at version bytes >>= (λ r. Some (statement.Report r.0, r.1))

abbrev pub as_lock : Version → List ℕ → Option (Statement × List ℕ)
as_lock version bytes = lock_at version bytes >>= (λ l. Some (statement.Lock l.0, l.1))

abbrev pub as_ack : Version → List ℕ → Option (Statement × List ℕ)
as_ack version bytes = ack_at version bytes >>= (λ a. Some (statement.Ack a.0, a.1))

-- a statement, whose first byte is its kind and version
unfoldable pub statement_at : List ℕ → Option (Statement × List ℕ)
statement_at bytes = byte_at bytes >>= (λ first.
    if first.0 == 0x01 then as_report One first.1
    else if first.0 == 0x02 then as_lock One first.1
    else if first.0 == 0x03 then as_ack One first.1
    else if first.0 == 0x11 then as_report Two first.1
    else if first.0 == 0x12 then as_lock Two first.1
    else if first.0 == 0x13 then as_ack Two first.1
    else None)

-- the statement that all of the bytes are, if they are one that frames of this version carry
unfoldable pub statement_reading : Version → List ℕ → Option Statement
statement_reading version bytes = do
  s ← statement_at bytes
  only_if ((length s.1 == 0) && reads version (version_of s.0)) s.0

-- a body of this length, with this statement, is one that frames of this version may have
abbrev pub is_carried : Version → ℕ → Statement → Bool
is_carried version len s = reads version (version_of s) && nat_le len (body_limit (version_of s))

-- the statement and the signature that all of the bytes are, if they are a body that frames of this version may have
unfoldable pub body_reading : Version → List ℕ → Option SignedStatement
body_reading version bytes = do
  s ← statement_at bytes
  signature ← signature_at s.1
  only_if ((length signature.1 == 0) && is_carried version (length bytes) s.0) (record { statement = s.0; signature = signature.0 })

-- the frame of this version that all of the bytes are, if they are one
unfoldable pub reading_in : Version → List ℕ → Option SignedStatement
reading_in version bytes = do
  len ← number_at w32 bytes
  guarded (length len.1 == len.0) (body_reading version len.1)

-- the frame, whatever its version, that all of the bytes are, if they are one
abbrev pub reading : List ℕ → Option SignedStatement
reading bytes = reading_in Two bytes
