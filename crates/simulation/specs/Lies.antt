-- The statements of liars, and which reports serve in the proof of a liar's lock. The phase of the reports is given for itself: an
-- honest proof has reports of the lock's phase, a stale one those of another.
use Rattle.std.specs.Prelude.{ℕ, ◌==◌, Bool, false, ◌&&◌, List, [], ◌∷◌, filter, slice_get, Option, Some, None, option_and_then}
use Rattle.std.specs.Prelude.{if◌then◌else◌}
use Rattle.std.specs.List.{filter_map}
use Rattle.ledger_model.specs.declared.statement.Report.{Report}
use Rattle.ledger_model.specs.declared.statement.Lock.{Lock}
use Rattle.ledger_model.specs.declared.statement.Ack.{Ack}
use Rattle.ledger_model.specs.declared.statement.Statement.{Statement}
use Rattle.ledger_model.specs.declared.statement.Statement.TheVariants as statement
use Rattle.ledger_model.specs.declared.statement.SignedReport.{SignedReport}
use Rattle.ledger_model.specs.declared.statement.SignedStatement.{SignedStatement}
use Rattle.ledger_model.specs.declared.history.Entry.{Entry}
use Rattle.ledger_model.specs.Locks.{finds}
use Rattle.ledger_model.specs.Versions.{reads}
use Rattle.ledger_model.specs.Reading.{reading}
use Rattle.ledger_model.specs.Worlds.{frames_in}
use Rattle.scenario_texts.specs.declared.command.Lie.{Lie}

-- the report of a liar: the batch is its initial value and its only proper value, and it lists no lock
abbrev pub lying_report : Lie → Report
lying_report l = record {
  version = l.version;
  height = l.height;
  phase = l.phase;
  signer = l.liar;
  all = false;
  initial = l.batch;
  proper = l.batch ∷ [];
  locked = [];
}

-- the report is replica r's, at the lie's height and in phase k, of a version that a lock of the lie's version carries, and finds its
-- batch: it serves in a proof from phase k
abbrev pub serves_report : Lie → ℕ → ℕ → Report → Bool
serves_report l k r report =
    (report.signer == r) && (report.height == l.height) && (report.phase == k) && reads l.version report.version && finds report l.batch

-- the signed report is replica r's, and serves in a proof from phase k
abbrev pub serves : Lie → ℕ → ℕ → SignedReport → Bool
serves l k r s = serves_report l k r s.report

-- the signed report that a signed statement is, if it is one
abbrev pub signed_report_of : SignedStatement → Option SignedReport
signed_report_of s = of s.statement
  where
    of : Statement → Option SignedReport
    of (statement.Report r) = Some (record { report = r; signature = s.signature })
    of _ = None

-- the signed report that a frame contains, if it does
abbrev pub report_in : List ℕ → Option SignedReport
report_in frame = option_and_then signed_report_of (reading frame)

-- the report, if it is a serving report
abbrev pub if_serves : Lie → ℕ → ℕ → Option SignedReport → Option SignedReport
if_serves l k r None = None
if_serves l k r (Some s) = if serves l k r s then Some s else None

-- the frames that the entry sent; none if there is no entry
abbrev pub frames_with : Option Entry → List (List ℕ)
frames_with None = []
frames_with (Some e) = frames_in e.reply

-- the earliest serving report of replica r among the frames
unfoldable pub first_serving : Lie → ℕ → ℕ → List (List ℕ) → Option SignedReport
first_serving l k r frames = slice_get (filter (serves l k r) (filter_map report_in frames)) 0

-- the lock of a liar
abbrev pub lying_lock : Lie → List SignedReport → Lock
lying_lock l proof = record {
  version = l.version;
  height = l.height;
  phase = l.phase;
  signer = l.liar;
  value = l.batch;
  proof = proof;
}

-- the acknowledgement of a liar
abbrev pub lying_ack : Lie → Ack
lying_ack l = record { version = l.version; height = l.height; phase = l.phase; signer = l.liar; value = l.batch }
