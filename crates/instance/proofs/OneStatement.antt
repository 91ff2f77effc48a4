-- One statement is made or read in the open round: the instance then matches the log with its note.
use Rattle.std.proofs.Common.{◌≡◌, ℕ, ◌/◌, ◌<◌, Bool, ◌&&◌, ◌||◌, true, false, inl, inr, List, [], ◌∷◌, length, refl, sym, ap, subst, ◌∙◌}
use Rattle.std.proofs.Common.{arith, ◌++◌, append_assoc}
use Rattle.std.specs.Prelude.{map, nat_eq, Option, Some, None, IsTrue, is_some, slice_set}
use Rattle.std.specs.List.{filter_map}
use Rattle.std.proofs.lemmas.List.{length-set}
use Rattle.std.proofs.lemmas.Bool.{cases_Bool, and_from, and_left, and_right, eq-eqb, eqb-true, ne_eqb, not-false, or_right}
use Rattle.std.proofs.lemmas.Bool.Decides.{nat_tests}
use Rattle.std.proofs.option.Match.{None-if_not_some}
use Rattle.ledger_model.specs.declared.reply.Ignored.TheVariants as cause
use Rattle.ledger_model.specs.declared.statement.Ack.{Ack}
use Rattle.ledger_model.specs.declared.statement.Lock.{Lock}
use Rattle.ledger_model.specs.declared.statement.SignedReport.{SignedReport}
use Rattle.ledger_model.specs.declared.statement.SignedStatement.{SignedStatement}
use Rattle.ledger_model.specs.declared.statement.Statement.{Statement}
use Rattle.ledger_model.specs.declared.statement.Statement.TheVariants as statement
use Rattle.ledger_model.specs.Values.{Value, same_value}
use Rattle.ledger_model.specs.Rounds.{phase_of, place_of, round_at, ack_place, lock_place, release_place, report_place, rounds_in_phase}
use Rattle.ledger_model.specs.Notes.{Note, OwnStatement, Read, clock_of, signer_of, is_report, is_lock, is_ack, was_read}
use Rattle.ledger_model.specs.Logs.{height_of, made_notes}
use Rattle.ledger_model.specs.Locks.{took, value_read, decided_of, is_full}
use Rattle.ledger_model.specs.Rules.{Ring, is_signed, with_signature}
use Rattle.ledger_model.specs.Lawful.{held_locks}
use Rattle.lock_proofs.specs.LockTables.{SignedLock, as_statement, with_lock, released, has_four_others}
use Rattle.ledger_model.specs.Spelling.{IsFrameIn, IsSignedReport}
use Rattle.tally.specs.Tallies.{Places, all_read, read_of}
use Rattle.ledger_model.proofs.Lists.{has_right, has_filter_map, same_value-refl, same_value-equal, any_mapped, find_only}
use Rattle.ledger_model.proofs.LockSafety.{has_read, took_tells}
use Rattle.ledger_model.proofs.Steps.{none_fits}
use Rattle.lock_proofs.proofs.GrowingLogs.{same_clock}
use Rattle.lock_proofs.proofs.TakenLocks.{takes_a_lock}
use Rattle.lock_proofs.proofs.ReleasedLocks.{releases_locks}
use Rattle.lock_proofs.proofs.KeptLocks.{keeps_locks}
use Rattle.instance.specs.Instances.{InstanceView}
use Rattle.instance.specs.Matching.{MatchesLog, ReportsMatch, LockMatches, AcksMatch, IsStoredReport, IsSoundInstance, IsHeldLock}
use Rattle.instance.specs.Reads.{row_causes, is_kept_already, with_statement}
use Rattle.instance.specs.Laws.{MatchesAfterNote}
use Rattle.instance.proofs.Answering.{OnTime, on_time}
use Rattle.tally.proofs.Puts.{read_put, there_now, there_still}
use Rattle.instance.proofs.KeptPlaces.{any_put}
use Rattle.instance.proofs.OneNote.{more, IsNext, next_made, next_read, read_more, made_more, read_same, made_same, taken_same, has_last}
use Rattle.instance.proofs.OneNote.{kept_stays, reports_stay, acks_stay, lock_stays, decided_same, proper_same, assembled}
use Rattle.instance.proofs.SpelledRows.{still_sound, sound_report, reads_sound, sound_lock}
use Rattle.instance.specs.Plans.{with_own, placed}

signed_is : (p s : SignedReport) → with_signature p ≡ with_signature s → p ≡ s
signed_is p s e = grind arith

-- a test of a statement that is read in the round itself
read_now : (log : List Note) (d : ℕ) (s : SignedStatement) → clock_of log ≡ d → (test : Statement → Bool)
    → was_read (more log (Read (clock_of log) s)) d test ≡ (was_read log d test || test s.statement)
read_now log d s here test = read_more log (Read (clock_of log) s) d test
    ∙ ap (λ b. was_read log d test || (b && test s.statement)) (eq-eqb (clock_of log) d here)

-- ---- the first lock that is read is taken

module _ (log : List Note) (k : ℕ) (s : SignedLock) (here : clock_of log ≡ round_at lock_place k) (of_phase : s.lock.phase ≡ k)
    (unread : was_read log (round_at lock_place k) (is_lock (λ l. true)) ≡ false) where
  abbrev with_it : List Note
  with_it = more log (Read (clock_of log) (as_statement s))

  takes_value : (v : Value) → took with_it v k ≡ (took log v k || (nat_eq s.lock.phase k && same_value v s.lock.value))
  takes_value v = read_now log (round_at lock_place k) (as_statement s) here (is_lock (λ l. nat_eq l.phase k && same_value v l.value))

  only_value : (v : Value) → took with_it v k ≡ true → v ≡ s.lock.value
  only_value v e =
      let takes = takes_value v in
      let told = took_tells log v k in
      let read = has_read log (round_at lock_place k) (is_lock (λ l. true)) in
      let same = same_value-equal v s.lock.value in
      grind arith

  taken_now : {taken made : Option Value} → LockMatches log k taken made → LockMatches with_it k (Some s.lock.value) made
  taken_now before = record {
    locked = read_now log (round_at lock_place k) (as_statement s) here (is_lock (λ l. true)) ∙ or_right _ true refl;
    taken = sym (find_only (λ v. took with_it v k) (filter_map value_read with_it) s.lock.value
        (has_filter_map value_read with_it (Read (clock_of log) (as_statement s)) s.lock.value (has_right log _ _ (inl refl)) refl)
        (takes_value s.lock.value ∙ or_right _ _ (and_from _ _ (eq-eqb s.lock.phase k of_phase) (same_value-refl s.lock.value)))
        only_value);
    made = λ test. made_same log (Read (clock_of log) (as_statement s)) (round_at lock_place k) (is_lock (λ l. test l.value)) refl
        ∙ before.made test;
  }

module _ (ring : Ring) (row : InstanceView) (log : List Note) (m : MatchesLog ring row log) where
  abbrev now : ℕ
  now = clock_of log

  abbrev k : ℕ
  k = phase_of (clock_of log)

  -- what is kept matches the log with a note that leaves the round open, where the parts that it changes do
  in_round : (n : Note) → IsNext log n → clock_of (n ∷ []) ≡ 0
      → {table : List SignedLock} {reports : Places SignedReport} {acks : Places Ack} {taken made : Option Value}
      → IsSoundInstance ring (record row { table = table; reports = reports; acks = acks; taken = taken; made = made })
      → held_locks (more log n) ≡ map as_statement table
      → ReportsMatch row.config.frames ring row.config.replicas row.height (more log n) k reports → LockMatches (more log n) k taken made
      → AcksMatch row.config.replicas (more log n) k acks
      → MatchesLog ring (record row { table = table; reports = reports; acks = acks; taken = taken; made = made }) (more log n)
  unfolding decided_of
  in_round n next still {table} {reports} {acks} {taken} {made} sound held are lock ack =
      assembled ring row log m n next row.proper table reports acks taken made row.decided now (same_clock log n still) (omega arith) sound
      refl (sym (proper_same ring row log m n next)) held
      (m.decided ∙ sym (decided_same ring row log m n next (now / rounds_in_phase) (omega arith))) are lock ack

  -- ---- one is made

  -- only a lock is kept
  makes_other : (s : Statement) → ((test : Lock → Bool) → is_lock test s ≡ false) → MatchesLog ring row (more log (OwnStatement now s))
  makes_other s none =
      in_round (OwnStatement now s) (next_made log s) refl m.sound (keeps_locks log (OwnStatement now s) m.timely refl ∙ sym m.locks)
      (reports_stay log (OwnStatement now s) (λ test. refl) m.reports)
      (lock_stays log (OwnStatement now s) (λ test. refl) (λ test. and_right (nat_eq now (round_at lock_place k)) _ (none test)) m.lock)
      (acks_stay log (OwnStatement now s) (λ test. refl) m.acks)

  makes_lock : (l : Lock) → place_of now ≡ lock_place → row.made ≡ None
      → MatchesLog ring (record row { made = Some l.value }) (more log (OwnStatement now (statement.Lock l)))
  makes_lock l place none =
      let n : Note = OwnStatement now (statement.Lock l) in
      in_round n (next_made log (statement.Lock l)) refl (still_sound m.sound) (keeps_locks log n m.timely refl ∙ sym m.locks)
      (reports_stay log n (λ test. refl) m.reports)
      (record {
        locked = read_same log n (round_at lock_place k) (is_lock (λ x. true)) refl ∙ m.lock.locked;
        taken = m.lock.taken ∙ sym (taken_same log n k (λ test. refl));
        made = λ test. let before = m.lock.made test in let now_made =
            made_more log n (round_at lock_place k) (is_lock (λ x. test x.value)) in grind (arith, nat_tests);
      })
      (acks_stay log n (λ test. refl) m.acks)

  -- ---- one is read

  reads_report : (p : SignedReport) → OnTime now (statement.Report p.report) → p.report.signer < row.config.replicas
      → read_of row.reports p.report.signer ≡ None
      → p.report.height ≡ row.height → IsTrue (is_signed ring (with_signature p)) → IsSignedReport row.config.frames p
      → MatchesLog ring (record row { reports = slice_set row.reports p.report.signer (Some p) }) (more log (Read now (with_signature p)))
  reads_report p t member none height signed spelled =
      let n : Note = Read now (with_signature p) in
      let r : ℕ = p.report.signer in
      let here : now ≡ round_at report_place k = let place = eqb-true (place_of now) 1 t.place in let some = t.some in omega arith in
      let below : r < length row.reports = let count = m.reports.count in omega arith in
      in_round n (next_read log (with_signature p) t.phase) refl (sound_report m.sound p spelled)
      (keeps_locks log n m.timely refl ∙ sym m.locks)
      (record {
        count = length-set row.reports r (Some p) ∙ m.reports.count;
        same = λ test.
            read_now log (round_at report_place k) (with_signature p) here (is_report test)
            ∙ ap (λ b. b || test p.report) (m.reports.same test ∙ any_mapped test (λ s. s.report) (all_read row.reports))
            ∙ sym (any_put (λ s. test s.report) row.reports r p below none)
            ∙ sym (any_mapped test (λ s. s.report) (all_read (slice_set row.reports r (Some p))));
        kept = λ q s e. elim (read_put row.reports r q p s e) [
          | inl new ↦ subst (λ x. IsStoredReport row.config.frames ring row.height (more log n) k q x) new.1 (record {
            of_height = height;
            of_phase = eqb-true p.report.phase k t.phase;
            of_signer = sym new.0;
            signed = signed;
            spelled = spelled;
            read = has_right log (n ∷ []) _ (inl (ap (λ d. Read d (with_signature p)) here));
          })
          | inr old ↦ kept_stays log n (m.reports.kept q s old)
        ];
        every = λ s has. elim (has_last log n _ has) [
          | inl old ↦ there_still row.reports r s.report.signer p s none (m.reports.every s old)
          | inr e ↦ subst (λ x. read_of (slice_set row.reports r (Some p)) x.report.signer ≡ Some x) (signed_is p s cc)
              (there_now row.reports r p below)
        ];
      })
      (lock_stays log n (λ test. and_right _ false refl) (λ test. refl) m.lock)
      (acks_stay log n (λ test. and_right _ false refl) m.acks)

  reads_ack : (a : Ack) (signature : List ℕ) → OnTime now (statement.Ack a) → a.signer < row.config.replicas
      → read_of row.acks a.signer ≡ None
      → MatchesLog ring (record row { acks = slice_set row.acks a.signer (Some a) })
      (more log (Read now (record { statement = statement.Ack a; signature = signature })))
  reads_ack a signature t member none =
      let f : SignedStatement = record { statement = statement.Ack a; signature = signature } in
      let n : Note = Read now f in
      let here : now ≡ round_at ack_place k = let place = eqb-true (place_of now) 3 t.place in let some = t.some in omega arith in
      in_round n (next_read log f t.phase) refl (still_sound m.sound) (keeps_locks log n m.timely refl ∙ sym m.locks)
      (reports_stay log n (λ test. and_right _ false refl) m.reports)
      (lock_stays log n (λ test. and_right _ false refl) (λ test. refl) m.lock)
      (record {
        count = length-set row.acks a.signer (Some a) ∙ m.acks.count;
        same = λ test. read_now log (round_at ack_place k) f here (is_ack test) ∙ ap (λ b. b || test a) (m.acks.same test)
            ∙ sym (any_put test row.acks a.signer a (let count = m.acks.count in omega arith) none);
        ackers = λ r b e. elim (read_put row.acks a.signer r a b e) [
          | inl new ↦
              ap (λ (x : Ack). x.signer) (sym new.1) ∙ sym new.0
          | inr old ↦ m.acks.ackers r b old
        ];
      })

  module _ (s : SignedLock) (t : OnTime (clock_of log) (statement.Lock s.lock)) where
    abbrev n : Note
    n = Read (clock_of log) (as_statement s)

    takes_lock : place_of now ≡ lock_place → is_some row.taken ≡ false
        → IsSoundInstance ring (record row { table = with_lock s row.table; taken = Some s.lock.value })
        → MatchesLog ring (record row { table = with_lock s row.table; taken = Some s.lock.value }) (more log n)
    takes_lock place first sound =
        let some = t.some in
        let here : now ≡ round_at lock_place k = omega arith in
        let phase : s.lock.phase ≡ k = let later : nat_eq (place_of now) release_place ≡ false =
        ne_eqb (place_of now) 4 (λ e. omega (arith, e, place)) in eqb-true s.lock.phase k (rw later at t.phase) in
        let unread : was_read log (round_at lock_place k) (is_lock (λ x. true)) ≡ false = m.lock.locked ∙ first in
        in_round n (next_read log (as_statement s) t.phase) refl sound
        (takes_a_lock log row.table k s m.timely m.locks (omega arith) here phase
        (ap (λ c. was_read log c (is_lock (λ x. true))) here ∙ unread))
        (reports_stay log n (λ test. and_right _ false refl) m.reports) (taken_now log k s here phase unread m.lock)
        (acks_stay log n (λ test. and_right _ false refl) m.acks)

    releases : place_of now ≡ release_place → IsSoundInstance ring (record row { table = released k s.lock row.table })
        → MatchesLog ring (record row { table = released k s.lock row.table }) (more log n)
    releases place sound =
        let some = t.some in
        let other : nat_eq now (round_at lock_place k) ≡ false = ne_eqb now (round_at lock_place k) (λ e. omega (arith, e, place, some)) in
        in_round n (next_read log (as_statement s) t.phase) refl sound (releases_locks log row.table k s m.timely m.locks (omega arith))
        (reports_stay log n (λ test. and_right _ false refl) m.reports)
        (lock_stays log n (λ test. and_left _ (test s.lock) other) (λ test. refl) m.lock)
        (acks_stay log n (λ test. and_right _ false refl) m.acks)

-- ---- a statement that no cause ignores

read_one : (ring : Ring) (row : InstanceView) (log : List Note) (m : MatchesLog ring row log) (signature : List ℕ) (s : Statement)
    → OnTime (clock_of log) s → is_kept_already row (clock_of log) s ≡ false
    → signer_of s < row.config.replicas → height_of s ≡ row.height
    → IsFrameIn row.config.frames (record { statement = s; signature = signature })
    → is_signed ring (record { statement = s; signature = signature }) ≡ true
    → IsSoundInstance ring (with_statement row (clock_of log) signature s)
    → MatchesLog ring (with_statement row (clock_of log) signature s)
    (more log (Read (clock_of log) (record { statement = s; signature = signature })))
read_one ring row log m signature (statement.Report r) t new member height frame signed sound =
    reads_report ring row log m (record { report = r; signature = signature }) t member
    (None-if_not_some (read_of row.reports r.signer) new)
    height signed (record { read = frame.read; report = frame.statement; signature = frame.signature })
read_one ring row log m signature (statement.Ack a) t new member height frame signed sound =
    reads_ack ring row log m a signature t member (None-if_not_some (read_of row.acks a.signer) new)
read_one ring row log m signature (statement.Lock l) t new member height frame signed sound =
    elim (cases_Bool (nat_eq (place_of (clock_of log)) lock_place)) [
      | inl second ↦ rw second (takes_lock ring row log m (record { lock = l; signature = signature }) t (eqb-true _ 2 second)
          (rw second at new) (rw second at sound))
      | inr other ↦ rw other (releases ring row log m (record { lock = l; signature = signature }) t (eqb-true _ 4 (rw other at t.place))
          (rw other at sound))
    ]

pub reads : MatchesAfterNote
reads ring row log s m member height frame ok =
    let c : ℕ = clock_of log in
    let fits = none_fits (row_causes row ring c s) tt in
    let t = on_time c s.statement (fits _ cause.WrongRound ok refl) (fits _ cause.WrongPhase ok refl) in
    read_one ring row log m s.signature s.statement t (fits _ cause.Repeated ok refl) member height frame
    (not-false (is_signed ring s) (fits _ cause.BadSignature ok refl))
    (reads_sound ring row log s m height frame ok)

added_is : {X : Type 0} (places : Places X) (id r : ℕ) (x : X) → r ≡ id → read_of places r ≡ None
    → slice_set places r (Some x) ≡ placed places id x
added_is places id r x own none = grind arith

module _ (ring : Ring) (row : InstanceView) (log : List Note) (m : MatchesLog ring row log) (c : ℕ) (now : clock_of log ≡ c) where
  abbrev made : Statement → List Note
  made s = more log (OwnStatement (clock_of log) s)

  clock_made : (s : Statement) → c ≡ clock_of (made s)
  clock_made s = sym (same_clock log (OwnStatement (clock_of log) s) refl ∙ now)

  -- the two notes
  both : (f : SignedStatement) → more (made f.statement) (Read (clock_of (made f.statement)) f) ≡ log ++ OwnStatement c f.statement
      ∷ Read c f ∷ []
  both f =
      ap (λ d. more (made f.statement) (Read d f)) (sym (clock_made f.statement))
      ∙ append_assoc log (OwnStatement (clock_of log) f.statement ∷ []) (Read c f ∷ [])
      ∙ ap (λ d. log ++ OwnStatement d f.statement ∷ Read c f ∷ []) now

  -- a report
  pub own_report_read : (p : SignedReport) → OnTime c (statement.Report p.report) → p.report.signer ≡ row.id → p.report.height ≡ row.height
      → read_of row.reports p.report.signer ≡ None
      → IsTrue (is_signed ring (with_signature p)) → IsSignedReport row.config.frames p
      → MatchesLog ring (with_own (with_signature p) row)
      (log ++ OwnStatement c (statement.Report p.report) ∷ Read c (with_signature p) ∷ [])
  own_report_read p t own height none signed spelled =
      let s : Statement = statement.Report p.report in
      subst (λ (ps : Places SignedReport). MatchesLog ring (record row { reports = ps })
      (log ++ OwnStatement c s ∷ Read c (with_signature p) ∷ [])) (added_is row.reports row.id p.report.signer p own none)
      (subst (MatchesLog ring (record row { reports = slice_set row.reports p.report.signer (Some p) })) (both (with_signature p))
      (reads_report ring row (made s) (makes_other ring row log m s (λ test. refl)) p (subst (λ d. OnTime d s) (clock_made s) t)
      (let member = m.member in omega (arith, own, member)) none height signed spelled))

  -- an acknowledgement
  pub own_ack_read : (a : Ack) (signature : List ℕ) → OnTime c (statement.Ack a) → a.signer ≡ row.id → read_of row.acks a.signer ≡ None
      → MatchesLog ring (with_own (record { statement = statement.Ack a; signature = signature }) row)
      (log ++ OwnStatement c (statement.Ack a) ∷ Read c (record { statement = statement.Ack a; signature = signature }) ∷ [])
  own_ack_read a signature t own none =
      let s : Statement = statement.Ack a in
      let f : SignedStatement = record { statement = s; signature = signature } in
      subst (λ (ps : Places Ack). MatchesLog ring (record row { acks = ps }) (log ++ OwnStatement c s ∷ Read c f ∷ []))
      (added_is row.acks row.id a.signer a own none)
      (subst (MatchesLog ring (record row { acks = slice_set row.acks a.signer (Some a) })) (both f)
      (reads_ack ring row (made s) (makes_other ring row log m s (λ test. refl)) a signature (subst (λ d. OnTime d s) (clock_made s) t)
      (let member = m.member in omega (arith, own, member)) none))

  -- a lock, which is not read where four locks on other values are held, by the table and by the log before the round
  pub own_lock_read : (s : SignedLock) (before : List Note) → OnTime c (statement.Lock s.lock) → place_of c ≡ lock_place → row.made ≡ None
      → is_some row.taken ≡ false → IsHeldLock ring row.config row.height s
      → has_four_others s.lock.value row.table ≡ is_full before s.lock.value
      → MatchesLog ring (with_own (as_statement s) row) (log ++ (made_notes before c (as_statement s) ++ []))
  own_lock_read s before t place none first held alike =
      let l : Statement = statement.Lock s.lock in
      let with_made : InstanceView = record row { made = Some s.lock.value } in
      let one = makes_lock ring row log m s.lock (ap place_of now ∙ place) none in
      elim (cases_Bool (has_four_others s.lock.value row.table)) [
        | inl full ↦ (let by_log = sym alike ∙ full
            in rw (full, by_log) (subst (λ d. MatchesLog ring with_made (log ++ OwnStatement d l ∷ [])) now one))
        | inr room ↦
            let by_log = sym alike ∙ room in
            rw (room, by_log) (subst (MatchesLog ring (record with_made { table = with_lock s row.table; taken = Some s.lock.value }))
            (both (as_statement s))
            (takes_lock ring with_made (made l) one s (subst (λ d. OnTime d l) (clock_made l) t) (ap place_of (sym (clock_made l)) ∙ place)
            first (sound_lock (still_sound m.sound) s held room)))
      ]
