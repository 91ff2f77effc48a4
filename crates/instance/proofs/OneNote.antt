-- What a log says of a phase: nothing yet, and what one more note leaves unchanged.
use Rattle.std.proofs.Common.{◌≡◌, ℕ, ◌≤◌, Bool, true, false, List, refl, sym, ap, ◌∙◌, arith, ◌*◌, ◌/◌, ◌<◌, ◌⊎◌, ◌||◌, inl, inr, [], ◌∷◌}
use Rattle.std.proofs.Common.{◌++◌, subst}
use Rattle.std.specs.Prelude.{None, replicate, find, map, Option, Some}
use Rattle.std.specs.List.{list_any, filter_map}
use Rattle.std.proofs.lemmas.List.{length-replicate}
use Rattle.ledger_model.specs.declared.statement.Ack.{Ack}
use Rattle.ledger_model.specs.declared.statement.SignedReport.{SignedReport}
use Rattle.ledger_model.specs.declared.statement.Statement.{Statement}
use Rattle.ledger_model.specs.Rounds.{round_at, phase_of, ack_place, lock_place, report_place, rounds_in_phase}
use Rattle.ledger_model.specs.Notes.{Note, is_report, is_lock, is_ack, was_read, was_made, Round, OwnStatement, Read, Has, clock_of}
use Rattle.ledger_model.specs.Notes.{reads_in, makes_in, retires}
use Rattle.ledger_model.specs.Locks.{took, value_read, lock_value, value_taken, decided_by, decided_of}
use Rattle.tally.specs.Readings.{reports_of}
use Rattle.proper_sets.specs.Propriety.{ProperSet}
use Rattle.ledger_model.specs.Rules.{Ring, with_signature, has_phase}
use Rattle.ledger_model.proofs.LockSafety.{has_read, read_has, made_has, took_tells}
use Rattle.ledger_model.proofs.Staying.{find_none, From, decided_stays, find_same, find_append}
use Rattle.ledger_model.specs.declared.version.Version.{Version}
use Rattle.instance.specs.Matching.{ReportsMatch, LockMatches, AcksMatch, MatchesLog, IsStoredReport, IsSoundInstance, proper_phase}
use Rattle.tally.proofs.Puts.{none_there}
use Rattle.instance.proofs.KeptPlaces.{none_read}
use Rattle.std.proofs.Math.Bool.{or-false}
use Rattle.std.proofs.lemmas.List.Folds.{list_any-append}
use Rattle.std.proofs.lemmas.Bool.{false_from_ne_true}
use Rattle.std.proofs.lemmas.Bool.Decides.{nat_tests}
use Rattle.ledger_model.specs.declared.statement.Lock.{Lock}
use Rattle.ledger_model.specs.declared.statement.Report.{Report}
use Rattle.ledger_model.specs.declared.statement.SignedStatement.{SignedStatement}
use Rattle.ledger_model.specs.Values.{Value}
use Rattle.lock_proofs.specs.LockTables.{SignedLock, as_statement}
use Rattle.ledger_model.specs.Lawful.{held_locks}
use Rattle.tally.specs.Tallies.{Places}
use Rattle.ledger_model.proofs.Lists.{has_left, has_cases, has_filter_map}
use Rattle.lock_proofs.specs.Laws.{IsTimely, is_on_time}
use Rattle.lock_proofs.proofs.TimelyLogs.{stays_timely}
use Rattle.proper_sets.specs.Laws.{proper_at}
use Rattle.instance.specs.Instances.{InstanceView}
use Rattle.instance.proofs.OpenLogs.{open_of-append}
use Rattle.instance.proofs.ProperStays.{NoneRead, proper_at-stays}
use Rattle.std.proofs.lemmas.List.Elements.{filter_map-append}

-- ---- nothing was read or made of phase k

module _ (log : List Note) (k : ℕ)
    (unread : (place : ℕ) (test : Statement → Bool) → 1 ≤ place → was_read log (round_at place k) test ≡ false) where
  pub no_reports : (version : Version) (ring : Ring) (replicas height : ℕ)
      → ReportsMatch version ring replicas height log k (replicate replicas None)
  no_reports version ring replicas height = record {
    count = length-replicate replicas None;
    same = λ test. unread 1 (is_report test) (omega arith) ∙ sym (ap (λ ss. list_any test (reports_of ss)) (none_read replicas));
    kept = λ r s e. absurd (cc (none_there {X = SignedReport} replicas r));
    every = λ s has. absurd (cc (
      unread 1 (λ x. true) (omega arith),
      has_read log (round_at report_place k) (λ x. true) (with_signature s)
          has refl,
    ));
  }

  pub no_acks : (replicas : ℕ) → AcksMatch replicas log k (replicate replicas None)
  no_acks replicas = record {
    count = length-replicate replicas None;
    same = λ test. unread 3 (is_ack test) (omega arith) ∙ sym (ap (list_any test) (none_read replicas));
    ackers = λ r a e. absurd (cc (none_there {X = Ack} replicas r));
  }

  pub no_lock : ((test : Statement → Bool) → was_made log (round_at lock_place k) test ≡ false) → LockMatches log k None None
  no_lock unmade = record {
    locked = unread 2 (is_lock (λ l. true)) (omega arith);
    taken = sym (find_none (λ v. took log v k) (filter_map value_read log) (λ v has e. absurd (cc (unread 2 _ (omega arith)))));
    made = λ test. unmade (is_lock (λ l. test l.value));
  }

-- what was made, was made by the open round
abbrev pub IsMadeByNow : List Note → Type 0
IsMadeByNow log = (c : ℕ) (s : Statement) → Has log (OwnStatement c s) → c ≤ clock_of log

-- nothing was read in a round that isn't open yet
pub unread : (log : List Note) (c : ℕ) (test : Statement → Bool) → IsTimely log → clock_of log < c → was_read log c test ≡ false
unread log c test timely later =
    false_from_ne_true (was_read log c test) (λ e. let r = read_has log c test e in let past =
    timely.past c r.0 r.1.0 in absurd (omega arith))

-- nor made
pub unmade : (log : List Note) (c : ℕ) (test : Statement → Bool) → IsMadeByNow log → clock_of log < c → was_made log c test ≡ false
unmade log c test by_now later =
    false_from_ne_true (was_made log c test) (λ e. let r = made_has log c test e in let past = by_now c r.0 r.1.0 in absurd (omega arith))

-- a value that was taken was read
took_known : (log : List Note) (v : Value) (k : ℕ) → took log v k ≡ true → Has (filter_map value_read log) v
took_known log v k e =
    let t = took_tells log v k e in
    has_filter_map value_read log (Read (round_at lock_place k) t.signed) v t.read (ap lock_value t.is ∙ ap Some (sym t.value))

-- ---- one note more

module _ (log : List Note) (n : Note) where
  abbrev pub more : List Note
  more = log ++ n ∷ []

  -- what was read or made before, or is by the note
  pub read_more : (d : ℕ) (test : Statement → Bool) → was_read more d test ≡ (was_read log d test || reads_in d test n)
  read_more d test = list_any-append (reads_in d test) log (n ∷ []) ∙ ap (λ b. was_read log d test || b) (or-false (reads_in d test n))

  pub made_more : (d : ℕ) (test : Statement → Bool) → was_made more d test ≡ (was_made log d test || makes_in d test n)
  made_more d test = list_any-append (makes_in d test) log (n ∷ []) ∙ ap (λ b. was_made log d test || b) (or-false (makes_in d test n))

  -- where it isn't such a note
  pub read_same : (d : ℕ) (test : Statement → Bool) → reads_in d test n ≡ false → was_read more d test ≡ was_read log d test
  read_same d test none = grind (arith, read_more)

  pub made_same : (d : ℕ) (test : Statement → Bool) → makes_in d test n ≡ false → was_made more d test ≡ was_made log d test
  made_same d test none = grind (arith, made_more)

  -- what the log has, it had before, or is the note
  pub has_last : (x : Note) → Has more x → Has log x ⊎ (n ≡ x)
  has_last x has = grind (arith, has_cases)

  -- ---- what a phase brought stays, where the note is none of it

  pub kept_stays : {version : Version} {ring : Ring} {height k r : ℕ} {p : SignedReport} → IsStoredReport version ring height log k r p
      → IsStoredReport version ring height more k r p
  kept_stays h = record {
    of_height = h.of_height;
    of_phase = h.of_phase;
    of_signer = h.of_signer;
    signed = h.signed;
    spelled =
        h.spelled;
    read = has_left log (n ∷ []) _ h.read;
  }

  pub reports_stay : {version : Version} {ring : Ring} {replicas height k : ℕ} {places : Places SignedReport}
      → ((test : Report → Bool) → reads_in (round_at report_place k) (is_report test) n ≡ false)
      → ReportsMatch version ring replicas height log k places → ReportsMatch version ring replicas height more k places
  reports_stay {k = k} none h = record {
    count = h.count;
    same = λ test. read_same (round_at report_place k) (is_report test) (none test) ∙ h.same test;
    kept = λ r p e. kept_stays (h.kept r p e);
    every = λ p has. let last = has_last (Read (round_at report_place k) (with_signature p)) has in let old = h.every p in let unread =
        none (λ r. true) in grind (arith, nat_tests);
  }

  pub acks_stay : {replicas k : ℕ} {places : Places Ack} → ((test : Ack → Bool) → reads_in (round_at ack_place k) (is_ack test) n ≡ false)
      → AcksMatch replicas log k places → AcksMatch replicas more k places
  acks_stay {k = k} none h = record {
    count = h.count;
    same =
        λ test. read_same (round_at ack_place k) (is_ack test) (none test) ∙ h.same test;
    ackers = h.ackers;
  }

  -- the value that was taken, where no lock is read in the round of locks
  pub taken_same : (k : ℕ) → ((test : Lock → Bool) → reads_in (round_at lock_place k) (is_lock test) n ≡ false)
      → value_taken more k ≡ value_taken log k
  taken_same k unread =
      find_same (λ v. took more v k) (λ v. took log v k) (λ v. read_same (round_at lock_place k) _ (unread _)) (filter_map value_read more)
      ∙ ap (find (λ v. took log v k)) (filter_map-append value_read log (n ∷ []))
      ∙ find_append (λ v. took log v k) (filter_map value_read log) (filter_map value_read (n ∷ [])) (λ v has e. took_known log v k e)

  pub lock_stays : {k : ℕ} {taken made : Option Value} → ((test : Lock → Bool) → reads_in (round_at lock_place k) (is_lock test) n ≡ false)
      → ((test : Lock → Bool) → makes_in (round_at lock_place k) (is_lock test) n ≡ false) → LockMatches log k taken made
      → LockMatches more k taken made
  lock_stays {k} unread unmade h = record {
    locked = read_same (round_at lock_place k) (is_lock (λ l. true)) (unread (λ l. true)) ∙ h.locked;
    taken = h.taken ∙ sym (taken_same k unread);
    made = λ test. made_same (round_at lock_place k) (is_lock (λ l. test l.value)) (unmade (λ l. test l.value)) ∙ h.made test;
  }

-- ---- a note that may come next

-- what it reads and makes is of the open round, and it doesn't retire the height
pub record IsNext (log : List Note) (n : Note) : Type 0 where
  pub on_time : is_on_time (clock_of log) n ≡ true
  pub reads : (c : ℕ) (s : SignedStatement) → n ≡ Read c s → c ≡ clock_of log
  pub makes : (c : ℕ) (s : Statement) → n ≡ OwnStatement c s → c ≡ clock_of log
  pub keeps : retires n ≡ false

-- such are the opening of a round, and what is made or read in the open one
pub next_round : (log : List Note) (c : ℕ) → IsNext log (Round c)
next_round log c = grind arith

pub next_made : (log : List Note) (s : Statement) → IsNext log (OwnStatement (clock_of log) s)
next_made log s = grind arith

pub next_read : (log : List Note) (s : SignedStatement) → has_phase (clock_of log) s.statement ≡ true → IsNext log (Read (clock_of log) s)
next_read log s phase = grind (arith, nat_tests)

module _ (ring : Ring) (row : InstanceView) (log : List Note) (old : MatchesLog ring row log) (n : Note) (next : IsNext log n) where
  -- what was proper and decided by the open round is still
  pub proper_same : proper_at row.config row.id (more log n) (proper_phase (clock_of log)) row.proper.own ≡ row.proper
  proper_same = proper_at-stays row.config row.id log (n ∷ []) (proper_phase (clock_of log)) row.proper.own before ∙ sym old.proper
    where
      before : (j : ℕ) → 1 ≤ j → j < proper_phase (clock_of log) → NoneRead j (n ∷ [])
      before j one below s has = let now = next.reads (round_at report_place j) s in grind (arith, nat_tests)

  pub decided_same : (k : ℕ) → rounds_in_phase * k ≤ clock_of log → decided_by row.config (more log n) k ≡ decided_by row.config log k
  decided_same k past = decided_stays row.config log (n ∷ []) from k past
    where
      from : From (clock_of log) (n ∷ [])
      from = record {
        reads = λ d s has. let now = next.reads d s in grind arith;
        makes = λ d s has. let now =
            next.makes d s in grind arith;
      }

  -- the row with these parts in place of its own
  abbrev pub with_parts : ProperSet → List SignedLock → Places SignedReport → Places Ack → Option Value → Option Value → Option Value
      → InstanceView
  with_parts proper table reports acks taken made decided =
      record row { proper = proper; table = table; reports = reports; acks = acks; taken = taken; made = made; decided = decided }

  -- it matches where the parts do
  pub assembled : (proper : ProperSet) (table : List SignedLock) (reports : Places SignedReport) (acks : Places Ack)
      (taken made decided : Option Value) (c : ℕ)
      → clock_of (more log n) ≡ c → clock_of log ≤ c → IsSoundInstance ring (with_parts proper table reports acks taken made decided)
      → proper.own ≡ row.proper.own → proper ≡ proper_at row.config row.id (more log n) (proper_phase c) row.proper.own
      → held_locks (more log n) ≡ map as_statement table → decided ≡ decided_by row.config (more log n) (c / rounds_in_phase)
      → ReportsMatch row.config.frames ring row.config.replicas row.height (more log n) (phase_of c) reports
      → LockMatches (more log n) (phase_of c) taken made
      → AcksMatch row.config.replicas (more log n) (phase_of c) acks
      → MatchesLog ring (with_parts proper table reports acks taken made decided) (more log n)
  unfolding decided_of
  assembled proper table reports acks taken made decided c clock later sound own is held decides are lock ack = record {
    member = old.member;
    sound = sound;
    opened = open_of-append log (n ∷ []) row.proper.own old.opened (rw next.keeps refl) ∙ ap Some (sym own);
    timely = stays_timely log n old.timely next.on_time;
    made_by_now = λ d s has. elim (has_last log n (OwnStatement d s) has) [
      | inl before ↦
          (let by = old.made_by_now d s before in omega arith)
      | inr e ↦ (let by = next.makes d s e in omega arith)
    ];
    proper = is ∙ ap (proper_at row.config row.id (more log n) (proper_phase c)) (sym own)
        ∙ ap (λ d. proper_at row.config row.id (more log n) (proper_phase d) proper.own) (sym clock);
    locks = sym held;
    decided = decides ∙ ap (λ d. decided_by row.config (more log n) (d / rounds_in_phase)) (sym clock);
    reports = subst (λ d. ReportsMatch row.config.frames ring row.config.replicas row.height (more log n) (phase_of d) reports) (sym clock)
        are;
    lock = subst (λ d. LockMatches (more log n) (phase_of d) taken made) (sym clock) lock;
    acks = subst (λ d. AcksMatch row.config.replicas (more log n) (phase_of d) acks) (sym clock) ack;
  }
