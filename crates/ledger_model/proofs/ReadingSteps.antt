-- What each step of a reader read, where it read a report, a signed report, a lock, an acknowledgement or a statement.
use Rattle.std.proofs.Common.{◌≡◌, ℕ, Bool, true, false, ◌&&◌, cond, List, length, Option, Some, None, refl, ap, subst, ◌∙◌, leb, eqb}
use Rattle.std.proofs.lemmas.Bool.{eqb-true}
use Rattle.ledger_model.specs.declared.statement.Report.{Report}
use Rattle.ledger_model.specs.declared.statement.Lock.{Lock}
use Rattle.ledger_model.specs.declared.statement.Ack.{Ack}
use Rattle.ledger_model.specs.declared.statement.SignedReport.{SignedReport}
use Rattle.ledger_model.specs.declared.statement.Statement.{Statement}
use Rattle.ledger_model.specs.declared.statement.Statement.TheVariants as statement
use Rattle.ledger_model.specs.Values.{Value}
use Rattle.ledger_model.specs.Validity.{ascends_within, signers_of}
use Rattle.ledger_model.specs.Reading.{◌>>=◌, only_if, guarded, byte_at, signature_at, flag_at, Header, place_at, value_at, list_at}
use Rattle.ledger_model.specs.Reading.{report_version, report_at, signed_at, proof_at, lock_at, ack_at, statement_at}
use Rattle.ledger_model.specs.Reading.{as_report, as_lock, as_ack}
use Rattle.ledger_model.specs.Versions.{first_byte}
use Rattle.ledger_model.specs.declared.version.Version.{Version}
use Rattle.ledger_model.specs.declared.version.Version.TheVariants.{One, Two}
use Rattle.ledger_model.proofs.Readers.{bind_then, only_if-some, guarded-some, some_is}

-- In each record `after_x` are the bytes after the part x, and `x_is` says that a step read x.

-- the place of a statement with this height, phase and signer
abbrev pub header_of : ℕ → ℕ → ℕ → Header
header_of height phase signer = record { height = height; phase = phase; signer = signer }

-- ---- reports

pub record ReportSteps (version : Version) (bytes : List ℕ) (r : Report) (rest : List ℕ) : Type 0 where
  pub after_place : List ℕ
  pub after_flag : List ℕ
  pub after_initial : List ℕ
  pub after_proper : List ℕ
  pub version_is : r.version ≡ version
  pub place_is : place_at bytes ≡ Some (header_of r.height r.phase r.signer, after_place)
  pub flag_is : flag_at after_place ≡ Some (r.all, after_flag)
  pub initial_is : value_at r.version after_flag ≡ Some (r.initial, after_initial)
  pub proper_is : list_at r.version after_initial ≡ Some (r.proper, after_proper)
  pub some : leb 1 (length r.proper) ≡ true
  pub locked_is : list_at r.version after_proper ≡ Some (r.locked, rest)

abbrev report_of : Version → Header → Bool → Value → List Value → List Value → Report
report_of version place all initial proper locked = record {
  version = version;
  height = place.height;
  phase = place.phase;
  signer = place.signer;
  all = all;
  initial = initial;
  proper = proper;
  locked = locked;
}

-- the readers of the rest of a report, from its locked values, its proper values, its initial value and its flag on
abbrev from_locked : Version → Header → Bool → Value → List Value × List ℕ → Option (Report × List ℕ)
from_locked version place all initial proper =
    guarded (leb 1 (length proper.0)) (list_at version proper.1)
    >>= λ locked. Some (report_of version place all initial proper.0 locked.0, locked.1)

abbrev from_proper : Version → Header → Bool → Value × List ℕ → Option (Report × List ℕ)
from_proper version place all initial = list_at version initial.1 >>= from_locked version place all initial.0

abbrev from_initial : Version → Header → Bool × List ℕ → Option (Report × List ℕ)
from_initial version place all = value_at version all.1 >>= from_proper version place all.0

abbrev from_flag : Version → Header × List ℕ → Option (Report × List ℕ)
from_flag version place = flag_at place.1 >>= from_initial version place.0

pub report_steps : (version : Version) (bytes : List ℕ) (r : Report) (rest : List ℕ) → report_at version bytes ≡ Some (r, rest)
    → ReportSteps version bytes r rest
unfolding report_at
report_steps version bytes r rest e =
    bind_then (place_at bytes) (from_flag version) (r, rest) e (λ place place_is place_then.
    bind_then (flag_at place.1) (from_initial version place.0) (r, rest) place_then (λ all all_is all_then.
    bind_then (value_at version all.1) (from_proper version place.0 all.0) (r, rest) all_then (λ initial initial_is initial_then.
    bind_then (list_at version initial.1) (from_locked version place.0 all.0 initial.0) (r, rest) initial_then
    (λ proper proper_is proper_then.
    bind_then (guarded (leb 1 (length proper.0)) (list_at version proper.1))
    (λ locked. Some (report_of version place.0 all.0 initial.0 proper.0 locked.0, locked.1)) (r, rest) proper_then
    (λ locked locked_is locked_then.
    let g = guarded-some (leb 1 (length proper.0)) (list_at version proper.1) locked locked_is in
    let made : Report × List ℕ = (report_of version place.0 all.0 initial.0 proper.0 locked.0, locked.1) in
    subst (λ (q : Report × List ℕ). ReportSteps version bytes q.0 q.1) (some_is made (r, rest) locked_then) (record {
      after_place = place.1;
      after_flag = all.1;
      after_initial = initial.1;
      after_proper = proper.1;
      version_is = refl;
      place_is = place_is;
      flag_is = all_is;
      initial_is = initial_is;
      proper_is = proper_is;
      some = g.0;
      locked_is = g.1;
    }))))))

-- ---- signed reports

pub record SignedSteps (version : Version) (bytes : List ℕ) (s : SignedReport) (rest : List ℕ) : Type 0 where
  pub first : ℕ
  pub own : Version
  pub after_first : List ℕ
  pub after_report : List ℕ
  pub first_is : byte_at bytes ≡ Some (first, after_first)
  pub own_is : report_version version first ≡ Some own
  pub report_is : report_at own after_first ≡ Some (s.report, after_report)
  pub signature_is : signature_at after_report ≡ Some (s.signature, rest)

-- the readers of the rest of a signed report, from its signature, its report and the version of its report on
abbrev from_signature : Report × List ℕ → Option (SignedReport × List ℕ)
from_signature report =
    signature_at report.1 >>= λ signature. Some (record { report = report.0; signature = signature.0 }, signature.1)

abbrev from_report : List ℕ → Version → Option (SignedReport × List ℕ)
from_report bytes own = report_at own bytes >>= from_signature

abbrev from_version : Version → ℕ × List ℕ → Option (SignedReport × List ℕ)
from_version version first = report_version version first.0 >>= from_report first.1

pub signed_steps : (version : Version) (bytes : List ℕ) (s : SignedReport) (rest : List ℕ) → signed_at version bytes ≡ Some (s, rest)
    → SignedSteps version bytes s rest
unfolding signed_at
signed_steps version bytes s rest e =
    bind_then (byte_at bytes) (from_version version) (s, rest) e (λ first first_is first_then.
    bind_then (report_version version first.0) (from_report first.1) (s, rest) first_then (λ own own_is own_then.
    bind_then (report_at own first.1) from_signature (s, rest) own_then (λ report report_is report_then.
    bind_then (signature_at report.1) (λ signature. Some (record { report = report.0; signature = signature.0 }, signature.1)) (s, rest)
    report_then (λ signature signature_is signature_then.
    let made : SignedReport × List ℕ = (record { report = report.0; signature = signature.0 }, signature.1) in
    subst (λ (q : SignedReport × List ℕ). SignedSteps version bytes q.0 q.1) (some_is made (s, rest) signature_then) (record {
      first = first.0;
      own = own;
      after_first = first.1;
      after_report = report.1;
      first_is = first_is;
      own_is = own_is;
      report_is = report_is;
      signature_is = signature_is;
    })))))

-- ---- locks

pub record LockSteps (version : Version) (bytes : List ℕ) (l : Lock) (rest : List ℕ) : Type 0 where
  pub count : ℕ
  pub after_place : List ℕ
  pub after_value : List ℕ
  pub after_count : List ℕ
  pub version_is : l.version ≡ version
  pub place_is : place_at bytes ≡ Some (header_of l.height l.phase l.signer, after_place)
  pub value_is : value_at l.version after_place ≡ Some (l.value, after_value)
  pub count_is : byte_at after_value ≡ Some (count, after_count)
  pub within : (leb 3 count && leb count 12) ≡ true
  pub proof_is : proof_at l.version count after_count ≡ Some (l.proof, rest)
  pub ascend : ascends_within 0 256 (signers_of l.proof) ≡ true

abbrev lock_of : Version → Header → Value → List SignedReport → Lock
lock_of version place value proof =
    record { version = version; height = place.height; phase = place.phase; signer = place.signer; value = value; proof = proof }

-- the lock of the reports that were read, if their signers ascend
abbrev ascending : Version → Header → Value → List SignedReport × List ℕ → Option (Lock × List ℕ)
ascending version place value reports =
    only_if (ascends_within 0 256 (signers_of reports.0)) (lock_of version place value reports.0, reports.1)

-- the readers of the rest of a lock, from its reports, their number and its value on
abbrev from_reports : Version → Header → Value → ℕ × List ℕ → Option (Lock × List ℕ)
from_reports version place value count =
    guarded (leb 3 count.0 && leb count.0 12) (proof_at version count.0 count.1) >>= ascending version place value

abbrev from_count : Version → Header → Value × List ℕ → Option (Lock × List ℕ)
from_count version place value = byte_at value.1 >>= from_reports version place value.0

abbrev from_value : Version → Header × List ℕ → Option (Lock × List ℕ)
from_value version place = value_at version place.1 >>= from_count version place.0

pub lock_steps : (version : Version) (bytes : List ℕ) (l : Lock) (rest : List ℕ) → lock_at version bytes ≡ Some (l, rest)
    → LockSteps version bytes l rest
unfolding lock_at
lock_steps version bytes l rest e =
    bind_then (place_at bytes) (from_value version) (l, rest) e (λ place place_is place_then.
    bind_then (value_at version place.1) (from_count version place.0) (l, rest) place_then (λ value value_is value_then.
    bind_then (byte_at value.1) (from_reports version place.0 value.0) (l, rest) value_then (λ count count_is count_then.
    bind_then (guarded (leb 3 count.0 && leb count.0 12) (proof_at version count.0 count.1)) (ascending version place.0 value.0) (l, rest)
    count_then (λ reports reports_is reports_then.
    let g = guarded-some (leb 3 count.0 && leb count.0 12) (proof_at version count.0 count.1) reports reports_is in
    let made : Lock × List ℕ = (lock_of version place.0 value.0 reports.0, reports.1) in
    let o = only_if-some (ascends_within 0 256 (signers_of reports.0)) made (l, rest) reports_then in
    subst (λ (q : Lock × List ℕ). LockSteps version bytes q.0 q.1) o.1 (record {
      count = count.0;
      after_place = place.1;
      after_value = value.1;
      after_count = count.1;
      version_is = refl;
      place_is = place_is;
      value_is = value_is;
      count_is = count_is;
      within = g.0;
      proof_is = g.1;
      ascend = o.0;
    })))))

-- ---- acknowledgements

pub record AckSteps (version : Version) (bytes : List ℕ) (a : Ack) (rest : List ℕ) : Type 0 where
  pub after_place : List ℕ
  pub version_is : a.version ≡ version
  pub place_is : place_at bytes ≡ Some (header_of a.height a.phase a.signer, after_place)
  pub value_is : value_at a.version after_place ≡ Some (a.value, rest)

abbrev ack_of : Version → Header → Value → Ack
ack_of version place value =
    record { version = version; height = place.height; phase = place.phase; signer = place.signer; value = value }

pub ack_steps : (version : Version) (bytes : List ℕ) (a : Ack) (rest : List ℕ) → ack_at version bytes ≡ Some (a, rest)
    → AckSteps version bytes a rest
unfolding ack_at
ack_steps version bytes a rest e =
    bind_then (place_at bytes) (λ place. value_at version place.1 >>= λ value. Some (ack_of version place.0 value.0, value.1)) (a, rest) e
    (λ place place_is place_then.
    bind_then (value_at version place.1) (λ value. Some (ack_of version place.0 value.0, value.1)) (a, rest) place_then
    (λ value value_is value_then.
    subst (λ (q : Ack × List ℕ). AckSteps version bytes q.0 q.1) (some_is (ack_of version place.0 value.0, value.1) (a, rest) value_then)
    (record { after_place = place.1; version_is = refl; place_is = place_is; value_is = value_is })))

-- ---- statements

-- the first byte says this kind, `read` reads the content after it, and `make` turns the content into the statement
pub record KindSteps {X : Type 0} (kind : ℕ) (read : Version → List ℕ → Option (X × List ℕ)) (make : X → Statement) (bytes : List ℕ)
    (s : Statement) (rest : List ℕ) : Type 0 where
  pub version : Version
  pub after_first : List ℕ
  pub content : X
  pub first_is : byte_at bytes ≡ Some (first_byte version kind, after_first)
  pub content_is : read version after_first ≡ Some (content, rest)
  pub statement_is : make content ≡ s

abbrev pub BeginsWithReport : List ℕ → Statement → List ℕ → Type 0
BeginsWithReport = KindSteps 1 report_at (λ r. statement.Report r)

abbrev pub BeginsWithLock : List ℕ → Statement → List ℕ → Type 0
BeginsWithLock = KindSteps 2 lock_at (λ l. statement.Lock l)

abbrev pub BeginsWithAck : List ℕ → Statement → List ℕ → Type 0
BeginsWithAck = KindSteps 3 ack_at (λ a. statement.Ack a)

-- what was read, as a statement
abbrev as_statement : {X : Type 0} → (X → Statement) → X × List ℕ → Option (Statement × List ℕ)
as_statement make x = Some (make x.0, x.1)

kind_steps : {X : Type 0} (kind : ℕ) (read : Version → List ℕ → Option (X × List ℕ)) (make : X → Statement) (version : Version)
    (bytes : List ℕ) (first : ℕ × List ℕ) (s : Statement) (rest : List ℕ) → byte_at bytes ≡ Some first
    → first.0 ≡ first_byte version kind → (read version first.1 >>= as_statement make) ≡ Some (s, rest)
    → KindSteps kind read make bytes s rest
kind_steps {X} kind read make version bytes first s rest first_is is e =
    bind_then (read version first.1) (as_statement make) (s, rest) e (λ x x_is x_then.
    subst (λ (q : Statement × List ℕ). KindSteps kind read make bytes q.0 q.1) (some_is (make x.0, x.1) (s, rest) x_then) (record {
      version = version;
      after_first = first.1;
      content = x.0;
      first_is = first_is ∙ ap (λ (b : ℕ). Some (b, first.1)) is;
      content_is = x_is;
      statement_is = refl;
    }))

-- What holds of each kind of statement holds of one that was read. The tests ask whether the first byte is 01, 02, 03, 11, 12, 13.
module _ {P : Type 0} (bytes : List ℕ) (s : Statement) (rest : List ℕ) (of_report : BeginsWithReport bytes s rest → P)
    (of_lock : BeginsWithLock bytes s rest → P) (of_ack : BeginsWithAck bytes s rest → P) where
  by_kind : (first : ℕ × List ℕ) (a b c d e f : Bool) → byte_at bytes ≡ Some first → eqb first.0 1 ≡ a → eqb first.0 2 ≡ b
      → eqb first.0 3 ≡ c → eqb first.0 17 ≡ d → eqb first.0 18 ≡ e → eqb first.0 19 ≡ f
      → cond a (as_report One first.1) (cond b (as_lock One first.1) (cond c (as_ack One first.1)
      (cond d (as_report Two first.1) (cond e (as_lock Two first.1) (cond f (as_ack Two first.1) None))))) ≡ Some (s, rest)
      → P
  by_kind first true b c d e f first_is is_a is_b is_c is_d is_e is_f read =
      of_report (kind_steps 1 report_at (λ r. statement.Report r) One bytes first s rest first_is (eqb-true first.0 1 is_a) read)
  by_kind first false true c d e f first_is is_a is_b is_c is_d is_e is_f read =
      of_lock (kind_steps 2 lock_at (λ l. statement.Lock l) One bytes first s rest first_is (eqb-true first.0 2 is_b) read)
  by_kind first false false true d e f first_is is_a is_b is_c is_d is_e is_f read =
      of_ack (kind_steps 3 ack_at (λ a. statement.Ack a) One bytes first s rest first_is (eqb-true first.0 3 is_c) read)
  by_kind first false false false true e f first_is is_a is_b is_c is_d is_e is_f read =
      of_report (kind_steps 1 report_at (λ r. statement.Report r) Two bytes first s rest first_is (eqb-true first.0 17 is_d) read)
  by_kind first false false false false true f first_is is_a is_b is_c is_d is_e is_f read =
      of_lock (kind_steps 2 lock_at (λ l. statement.Lock l) Two bytes first s rest first_is (eqb-true first.0 18 is_e) read)
  by_kind first false false false false false true first_is is_a is_b is_c is_d is_e is_f read =
      of_ack (kind_steps 3 ack_at (λ a. statement.Ack a) Two bytes first s rest first_is (eqb-true first.0 19 is_f) read)
  by_kind first false false false false false false first_is is_a is_b is_c is_d is_e is_f read = absurd cc

  pub statement_then : statement_at bytes ≡ Some (s, rest) → P
  unfolding statement_at
  statement_then e =
      bind_then (byte_at bytes) (λ first. cond (eqb first.0 1) (as_report One first.1) (cond (eqb first.0 2) (as_lock One first.1)
      (cond (eqb first.0 3) (as_ack One first.1) (cond (eqb first.0 17) (as_report Two first.1) (cond (eqb first.0 18) (as_lock Two first.1)
      (cond (eqb first.0 19) (as_ack Two first.1) None)))))) (s, rest) e (λ first first_is read.
      by_kind first (eqb first.0 1) (eqb first.0 2) (eqb first.0 3) (eqb first.0 17) (eqb first.0 18) (eqb first.0 19) first_is refl refl
      refl refl refl refl read)
