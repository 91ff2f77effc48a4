-- What is signed in a frame, borrowed from the frame: its statement, and the reports of a lock's proof.
use Rattle.std.specs.Prelude.{◌≡◌, ◌<◌, ◌^◌, ℕ, List, [], ◌++◌, drop, length}
use Rattle.std.specs.List.{flat_map, AllByRecursion}
use Rattle.ledger_model.specs.declared.statement.SignedReport.{SignedReport}
use Rattle.ledger_model.specs.declared.statement.SignedStatement.{SignedStatement}
use Rattle.ledger_model.specs.declared.statement.Statement.{Statement}
use Rattle.ledger_model.specs.declared.statement.Statement.TheVariants as statement
use Rattle.ledger_model.specs.Notes.{signer_of}
use Rattle.ledger_model.specs.declared.version.Version.{Version}
use Rattle.ledger_model.specs.Spelling.{statement_bytes, signed_bytes, IsSignedReport}

-- who signed, the bytes over which the signature is made, and the bytes of the signature
pub record SignedPartView : Type 0 where
  pub signer : ℕ
  pub message : List ℕ
  pub signature : List ℕ

-- a report of a proof, as it is borrowed from the frame
abbrev pub lent_of : SignedReport → SignedPartView
lent_of s = record { signer = s.report.signer; message = statement_bytes (statement.Report s.report); signature = s.signature }

-- the frame's own statement, as it is borrowed from the frame
abbrev pub own_part : SignedStatement → SignedPartView
own_part s = record { signer = signer_of s.statement; message = statement_bytes s.statement; signature = s.signature }

-- the reports of a lock's proof; none for other statements
abbrev pub proof_of : Statement → List SignedReport
proof_of (statement.Report r) = []
proof_of (statement.Lock l) = l.proof
proof_of (statement.Ack a) = []

-- the frame has the bytes that encode these reports, one after the other, from there on; its length is that of a buffer
pub record StandAt (at : ℕ) (reports : List SignedReport) (frame : List ℕ) : Type 0 where
  pub each : (version : Version) × AllByRecursion (IsSignedReport version) reports
  pub spelled : (rest : List ℕ) × (drop at frame ≡ flat_map signed_bytes reports ++ rest)
  pub short : length frame < 2 ^ 63
