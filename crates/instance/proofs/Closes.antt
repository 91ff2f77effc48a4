-- Opening the next round: the instance and what is made in the round match the log with their notes.
use Rattle.std.proofs.Common.{◌≡◌, ℕ, suc, ◌+◌, ◌/◌, ◌≤◌, Bool, true, false, cond, inl, inr, List, [], ◌∷◌, refl, sym, ap, subst, ◌∙◌}
use Rattle.std.proofs.Common.{arith, ◌++◌, append_assoc}
use Rattle.std.specs.Prelude.{map, Option, Some, None, is_some, replicate, nat_eq, IsTrue}
use Rattle.std.specs.Option.{option_map_or}
use Rattle.std.specs.List.{filter_map, find, flat_map}
use Rattle.std.proofs.lemmas.Bool.{and_parts, cases_Bool, both_ways, and_from, eq-eqb}
use Rattle.std.proofs.lemmas.Bool.Decides.{nat_tests}
use Rattle.std.proofs.lemmas.Option.{same_Some}
use Rattle.std.proofs.option.Match.{None-if_not_some}
use Rattle.ledger_model.specs.declared.config.Config.{Config}
use Rattle.ledger_model.specs.declared.statement.Ack.{Ack}
use Rattle.ledger_model.specs.declared.statement.Statement.{Statement}
use Rattle.ledger_model.specs.Values.{Value, same_value}
use Rattle.ledger_model.specs.Rounds.{phase_of, place_of, round_at, owner_of, ack_place, lock_place, release_place, report_place}
use Rattle.ledger_model.specs.Rounds.{rounds_in_phase}
use Rattle.ledger_model.specs.Notes.{Note, Round, clock_of, is_lock, was_read, was_made}
use Rattle.ledger_model.specs.Locks.{or_else, is_acked, value_made, decided_by, decided_of}
use Rattle.ledger_model.specs.Lawful.{held_locks}
use Rattle.lock_proofs.specs.LockTables.{as_statement}
use Rattle.tally.specs.Readings.{AreAcksIn, reports_of}
use Rattle.proper_sets.specs.Propriety.{absorbed}
use Rattle.phase_core.specs.Choices.{is_decided_by}
use Rattle.ledger_model.specs.Rules.{Ring, is_signed}
use Rattle.tally.specs.Tallies.{all_read, read_of}
use Rattle.ledger_model.proofs.Goodness.{clock_of-append}
use Rattle.ledger_model.proofs.Lists.{same_value-refl, same_value-equal, find_only}
use Rattle.ledger_model.proofs.Staying.{find_none, acked_known}
use Rattle.lock_proofs.proofs.KeptLocks.{keeps_locks}
use Rattle.phase_core.proofs.Logs.{decided_is_acked}
use Rattle.proper_sets.specs.Laws.{proper_at}
use Rattle.proper_sets.proofs.Absorbing.{absorbs_a_phase}
use Rattle.instance.specs.Instances.{InstanceView}
use Rattle.instance.specs.Matching.{MatchesLog, MatchesIn, proper_phase, IsHeldLock}
use Rattle.instance.specs.Plans.{decides_first, forgotten, own_report, own_ack_of, unsent_ack, unsent_frames, opened_effects, MaySend, made_by}
use Rattle.instance.specs.Plans.{with_all, closed}
use Rattle.tally.proofs.Puts.{none_there}
use Rattle.instance.proofs.KeptPlaces.{are_read_in, are_acks_in, taken_place}
use Rattle.instance.proofs.OneNote.{no_reports, no_acks, no_lock, more, unread, unmade, read_same, made_same, reports_stay, acks_stay}
use Rattle.instance.proofs.OneNote.{lock_stays, next_round, proper_same, decided_same, assembled}
use Rattle.instance.proofs.ProperStays.{proper_at-stays}
use Rattle.instance.proofs.SpelledRows.{still_sound, forgets_soundly, absorbs_soundly}
use Rattle.ledger_model.specs.declared.statement.Lock.{Lock}
use Rattle.ledger_model.specs.declared.statement.SignedStatement.{SignedStatement}
use Rattle.ledger_model.specs.declared.statement.Statement.TheVariants as statement
use Rattle.ledger_model.specs.Logs.{made_notes}
use Rattle.ledger_model.specs.Spelling.{IsFrame}
use Rattle.ledger_model.proofs.FrameReading.{own_frame}
use Rattle.lock_proofs.proofs.HeldLocks.{full_alike}
use Rattle.instance.specs.declared.round_statement.RoundStatement.{RoundStatement}
use Rattle.instance.specs.declared.round_statement.RoundStatement.TheVariants as made
use Rattle.instance.specs.Laws.{Closes, MayClose, IsSignedMade, IsFrameMade}
use Rattle.ledger_model.proofs.AtPlace.{at_place, at_reports, at_lock, at_acks, at_release}
use Rattle.instance.proofs.Makes.{allowed, proves_signed, made_alike}
use Rattle.instance.proofs.MaySend.{sent_lock, of_ack}
use Rattle.instance.proofs.OneStatement.{own_report_read, own_ack_read, own_lock_read}

-- ---- what a phase decides

-- the acknowledgements of a lock of phase k on v decide it
abbrev decides : Config → List Ack → ℕ → Value → Bool
decides config acks k v = is_decided_by config acks k v

module _ (config : Config) (log : List Note) (height k id : ℕ) where
  -- only the value of the lock that was made is acknowledged
  only_own : (w : Value) → ((test : Value → Bool) → was_made log (round_at lock_place k) (is_lock (λ l. test l.value)) ≡ test w)
      → (v : Value) → is_acked config log k v ≡ true → v ≡ w
  only_own w made v acked = let own = made (same_value v) in grind (arith, same_value-equal)

  found : (acks : List Ack) → AreAcksIn config log k acks → (made : Option Value)
      → ((test : Value → Bool) → was_made log (round_at lock_place k) (is_lock (λ l. test l.value)) ≡ option_map_or test made false)
      → find (is_acked config log k) (filter_map value_made log)
      ≡ option_map_or (λ w. cond (decides config acks k w) (Some w) None) made None
  found acks are None made = find_none (is_acked config log k) (filter_map value_made log)
      (λ v has acked. both_ways _ (made (same_value v)) (and_parts _ _ acked).0)
  found acks are (Some w) made =
      let same : decides config acks k w ≡ is_acked config log k w =
      decided_is_acked config log k acks are w (made (same_value w) ∙ same_value-refl w) in
      elim (cases_Bool (decides config acks k w)) [
        | inl enough ↦
            let acked : is_acked config log k w ≡ true = sym same ∙ enough in
            rw enough (find_only (is_acked config log k) (filter_map value_made log) w (acked_known config log k w acked) acked
            (only_own w made))
        | inr few ↦ rw few (find_none (is_acked config log k) (filter_map value_made log) (λ v has acked. let own =
            only_own w made v acked in grind arith))
      ]

-- what is kept allows it
abbrev MayMakeOf : InstanceView → ℕ → RoundStatement → Type 0
MayMakeOf row c made.Mute = Unit {0}
MayMakeOf row c made.Unsent = MaySend row c None
MayMakeOf row c (made.Sent f) = MaySend row c (Some f.statement)

-- what is sent is another statement
abbrev with_other : SignedStatement → Statement → SignedStatement
with_other f s = record { statement = s; signature = f.signature }

module _ (ring : Ring) (row : InstanceView) (log : List Note) (old : MatchesLog ring row log) where
  abbrev c : ℕ
  c = clock_of log + 1

  abbrev k : ℕ
  k = phase_of (clock_of log + 1)

  abbrev opened : List Note
  opened = more log (Round (clock_of log + 1))

  -- what is kept as each place opens
  abbrev reports_row : InstanceView
  reports_row = record (forgotten row) { decided = or_else row.decided None }

  abbrev lock_row : InstanceView
  lock_row = record row {
    proper = absorbed row.config row.id (reports_of (all_read row.reports)) row.proper;
    decided =
        or_else row.decided None;
  }

  abbrev acks_row : InstanceView
  acks_row = record row { decided = or_else row.decided None }

  abbrev release_row : InstanceView
  release_row = record row { decided = or_else row.decided (decides_first row (phase_of (clock_of log + 1))) }

  clock_now : clock_of opened ≡ c
  clock_now = clock_of-append log (Round c ∷ [])

  -- in each round of a phase but the first
  was : (place_of c ≡ report_place → ⊥) → MatchesIn ring row log k
  was later = subst (MatchesIn ring row log) (omega (arith, later)) old

  held : held_locks opened ≡ map as_statement row.table
  held = keeps_locks log (Round c) old.timely refl ∙ sym old.locks

  -- what is proper stays, but as place 2 opens, and what was decided, but as place 4 does
  proper : (place_of c ≡ lock_place → ⊥) → row.proper ≡ proper_at row.config row.id opened (proper_phase c) row.proper.own
  proper other =
      let same : proper_phase (clock_of log) ≡ proper_phase c = grind (arith, nat_tests) in
      sym (proper_same ring row log old (Round c) (next_round log c)) ∙ ap (λ p. proper_at row.config row.id opened p row.proper.own) same

  still_by : row.decided ≡ decided_by row.config opened (clock_of log / rounds_in_phase)
  unfolding decided_of
  still_by = old.decided ∙ sym (decided_same ring row log old (Round c) (next_round log c) (clock_of log / rounds_in_phase) (omega arith))

  still : (place_of c ≡ release_place → ⊥) → or_else row.decided None ≡ decided_by row.config opened (c / rounds_in_phase)
  still other = let same : clock_of log / rounds_in_phase ≡ c / rounds_in_phase =
      omega (arith, other) in or_else-none row.decided ∙ still_by ∙ ap (decided_by row.config opened) same
    where
      or_else-none : (o : Option Value) → or_else o None ≡ o
      or_else-none o = grind arith

  -- nothing was read or made of the phase that opens
  opens_reports : place_of c ≡ report_place → MatchesLog ring reports_row opened
  opens_reports place =
      let none : (p : ℕ) (test : Statement → Bool) → 1 ≤ p → was_read opened (round_at p k) test ≡ false =
      λ p test some. read_same log (Round c) (round_at p k) test refl ∙ unread log (round_at p k) test old.timely (omega arith) in
      assembled ring row log old (Round c) (next_round log c) row.proper row.table (replicate row.config.replicas None)
      (replicate row.config.replicas None) None None (or_else row.decided None)
      c clock_now (omega arith) (forgets_soundly old.sound) refl (proper (λ e. omega arith)) held (still (λ e. omega arith))
      (no_reports opened k none row.config.frames ring row.config.replicas row.height)
      (no_lock opened k none (λ test. made_same log (Round c) (round_at lock_place k) test refl
      ∙ unmade log (round_at lock_place k) test old.made_by_now (omega arith)))
      (no_acks opened k none row.config.replicas)

  -- the reports that were read make proper what the log does
  opens_lock : place_of c ≡ lock_place → MatchesLog ring lock_row opened
  unfolding absorbed
  opens_lock place =
      let now = was (λ e. omega arith) in
      let before : proper_phase (clock_of log) ≡ k = grind (arith, nat_tests) in
      let after : k + 1 ≡ proper_phase c = grind (arith, nat_tests) in
      let known = absorbs_a_phase row.config row.id log k row.proper.own (reports_of (all_read row.reports)) old.member (omega arith)
      (are_read_in ring row log k now) in
      let stays = proper_at-stays row.config row.id log (Round c ∷ []) (k + 1) row.proper.own
      (λ j some below s has. elim has [ inl e ↦ absurd (cc) | inr none ↦ none ]) in
      assembled ring row log old (Round c) (next_round log c) (absorbed row.config row.id (reports_of (all_read row.reports)) row.proper)
      row.table row.reports row.acks row.taken row.made
      (or_else row.decided None) c clock_now (omega arith) (absorbs_soundly old.sound) refl
      (ap (absorbed row.config row.id (reports_of (all_read row.reports)))
      (now.proper ∙ ap (λ p. proper_at row.config row.id log p row.proper.own) before)
      ∙ known ∙ sym stays ∙ ap (λ p. proper_at row.config row.id opened p row.proper.own) after)
      held (still (λ e. omega arith)) (reports_stay log (Round c) (λ test. refl) now.reports)
      (lock_stays log (Round c) (λ test. refl) (λ test. refl) now.lock) (acks_stay log (Round c) (λ test. refl) now.acks)

  -- the phase goes on, and what is decided is given
  goes_on : (decided : Option Value) → (place_of c ≡ report_place → ⊥) → (place_of c ≡ lock_place → ⊥)
      → decided ≡ decided_by row.config opened (c / rounds_in_phase) → MatchesLog ring (record row { decided = decided }) opened
  goes_on decided later other is =
      let now = was later in
      assembled ring row log old (Round c) (next_round log c) row.proper row.table row.reports row.acks row.taken row.made decided c
      clock_now (omega arith) (still_sound old.sound) refl
      (proper other) held is (reports_stay log (Round c) (λ test. refl) now.reports)
      (lock_stays log (Round c) (λ test. refl) (λ test. refl) now.lock) (acks_stay log (Round c) (λ test. refl) now.acks)

  -- the lock that was made is decided, where nothing was before
  decides_last : place_of c ≡ release_place → or_else row.decided (decides_first row k) ≡ decided_by row.config opened (c / rounds_in_phase)
  decides_last place =
      let now = was (λ e. omega (arith, e, place)) in
      let lock = lock_stays log (Round c) (λ test. refl) (λ test. refl) now.lock in
      let acks = acks_stay log (Round c) (λ test. refl) now.acks in
      let last = found row.config opened row.height k row.id (all_read row.acks)
      (record { same = acks.same; signers = (are_acks_in ring row log k now).signers }) row.made lock.made in
      let all : c / rounds_in_phase ≡ suc (clock_of log / rounds_in_phase) = omega arith in
      let phase : k ≡ suc (clock_of log / rounds_in_phase) = omega arith in
      let before = still_by in
      let decides_it : or_else row.decided (decides_first row k) ≡ decided_by row.config opened (suc (clock_of log / rounds_in_phase)) =
      rw (sym phase) (grind arith) in
      decides_it ∙ ap (decided_by row.config opened) (sym all)

  opens_acks : place_of c ≡ ack_place → MatchesLog ring acks_row opened
  opens_acks e = goes_on (or_else row.decided None) (λ f. omega (arith, e, f)) (λ f. omega (arith, e, f)) (still (λ f. omega (arith, e, f)))

  opens_release : place_of c ≡ release_place → MatchesLog ring release_row opened
  opens_release e = goes_on (or_else row.decided (decides_first row k)) (λ f. omega (arith, e, f)) (λ f. omega (arith, e, f))
      (decides_last e)

  -- from what is kept as the round opens, with what is made
  abbrev Closing : InstanceView → List SignedStatement → Type 0
  Closing start fs = MatchesLog ring (with_all fs start) (log ++ Round c ∷ flat_map (made_notes log c) fs)

  joined : {start : InstanceView} (notes : List Note) → MatchesLog ring start ((log ++ Round c ∷ []) ++ notes)
      → MatchesLog ring start (log ++ Round c ∷ notes)
  joined {start} notes m = subst (MatchesLog ring start) (append_assoc log (Round c ∷ []) notes) m

  -- ---- the statement that is made

  own_reported : (place : place_of c ≡ report_place) (signature : List ℕ) → let f : SignedStatement =
      record { statement = statement.Report (own_report row k); signature = signature } in
      IsTrue (is_signed ring f) → IsFrame f → Closing reports_row (f ∷ [])
  own_reported place signature signed frame =
      joined _ (own_report_read ring _ _ (opens_reports place) c clock_now (record { report = own_report row k; signature = signature })
      (record { some = omega arith; place = rw place refl; phase = eq-eqb k k refl }) refl refl (none_there row.config.replicas row.id)
      signed
      (let within = own_frame row.config.frames _ frame refl in
      record { read = within.read; report = frame.statement; signature = frame.signature }))

  own_locked : (place : place_of c ≡ lock_place) (l : Lock) (signature : List ℕ) → l.phase ≡ k
      → IsHeldLock ring row.config row.height (record { lock = l; signature = signature })
      → Closing lock_row (record { statement = statement.Lock l; signature = signature } ∷ [])
  own_locked place l signature of_phase held =
      let j : ℕ = phase_of (clock_of log) in
      let first : is_some row.taken ≡ false =
      sym old.lock.locked ∙ unread log (round_at lock_place j) (is_lock (λ x. true)) old.timely (omega arith) in
      let none : row.made ≡ None = none_made row.made
      (sym (old.lock.made (λ v. true)) ∙ unmade log (round_at lock_place j) (is_lock (λ x. true)) old.made_by_now (omega arith)) in
      joined _ (own_lock_read ring _ _ (opens_lock place) c clock_now (record { lock = l; signature = signature }) log
      (record { some = omega arith; place = rw place refl; phase = rw place (eq-eqb l.phase k of_phase) }) place none first held
      (full_alike log row.table old.locks l.value))
    where
      none_made : (o : Option Value) → option_map_or (λ v. true) o false ≡ false → o ≡ None
      none_made o e = grind arith

  own_acked : (place : place_of c ≡ ack_place) (v : Value) (signature : List ℕ)
      → Closing acks_row (record { statement = statement.Ack (own_ack_of row k v); signature = signature } ∷ [])
  own_acked place v signature =
      let j : ℕ = phase_of (clock_of log) in
      let none = taken_place (λ (a : Ack). a.signer) row.acks old.acks.ackers row.id ∙ sym (old.acks.same (λ a. nat_eq a.signer row.id))
      ∙ unread log (round_at ack_place j) _ old.timely (omega arith) in
      joined _ (own_ack_read ring _ _ (opens_acks place) c clock_now (own_ack_of row k v) signature
      (record { some = omega arith; place = rw place refl; phase = eq-eqb k k refl }) refl
      (None-if_not_some (read_of row.acks row.id) none))

  -- ---- by place

  at_first : place_of c ≡ report_place → (m : RoundStatement) → MayMakeOf row c m → IsSignedMade ring m → IsFrameMade m
      → Closing reports_row (made_by None m)
  at_first place made.Mute may signed frame = opens_reports place
  at_first place made.Unsent may signed frame = opens_reports place
  at_first place (made.Sent f) may signed frame =
      subst (λ s. IsTrue (is_signed ring (with_other f s)) → IsFrame (with_other f s) → Closing reports_row (with_other f s ∷ []))
      (sym (same_Some _ _ (rw place at may))) (own_reported place f.signature) signed frame

  at_second : place_of c ≡ lock_place → (m : RoundStatement) → MayMakeOf row c m → IsSignedMade ring m → IsFrameMade m
      → Closing lock_row (made_by None m)
  at_second place made.Mute may signed frame = opens_lock place
  at_second place made.Unsent may signed frame = opens_lock place
  at_second place (made.Sent f) may signed frame =
      let own = sent_lock row c f.statement place may in
      let signed_proof = proves_signed ring row log (statement.Lock own.0) old (subst (λ s. MaySend row c (Some s)) own.1 may) in
      subst (λ s. IsTrue (is_signed ring (with_other f s)) → IsFrame (with_other f s) → Closing lock_row (with_other f s ∷ [])) (sym own.1)
      (λ signs spelled. own_locked place own.0 f.signature own.2.of_phase
      (record {
        of_height = own.2.of_height;
        frame = own_frame row.config.frames _ spelled own.2.of_version;
        signed = signs;
        proved =
            and_from _ _ (and_from _ _ own.2.quorate signed_proof) own.2.supporting;
      }))
      signed frame

  -- an owner acknowledges to itself the lock that was taken
  unsent_acked : place_of c ≡ ack_place → (taken : Option Value) → Closing acks_row (unsent_frames (unsent_ack row k taken))
  unsent_acked place None = opens_acks place
  unsent_acked place (Some v) = elim (cases_Bool (nat_eq (owner_of row.config k) row.id)) [
    | inl mine ↦
        rw mine (own_acked place v [])
    | inr other ↦ rw other (opens_acks place)
  ]

  at_third : place_of c ≡ ack_place → (m : RoundStatement) → MayMakeOf row c m → Closing acks_row (made_by (unsent_ack row k row.taken) m)
  at_third place made.Mute may = opens_acks place
  at_third place made.Unsent may = unsent_acked place row.taken
  at_third place (made.Sent f) may =
      let own = of_ack row k row.taken f.statement (rw place at may) in
      rw own.2 (subst (λ s. Closing acks_row (with_other f s ∷ [])) (sym own.1) (own_acked place own.0 f.signature))

  at_fourth : (place : place_of c ≡ release_place) (m : RoundStatement) → MayMakeOf row c m → Closing release_row (made_by None m)
  at_fourth place made.Mute may = opens_release place
  at_fourth place made.Unsent may = opens_release place
  at_fourth place (made.Sent f) may = (let none : Some f.statement ≡ None = rw place at may in cc)

  closes_row : (m : RoundStatement) → MayMakeOf row c m → IsSignedMade ring m → IsFrameMade m
      → MatchesLog ring (closed row c (opened_effects row c) m) (log ++ Round c ∷ flat_map (made_notes log c) (made_by (opened_effects row c).unsent m))
  unfolding closed opened_effects
  closes_row m may signed frame = elim (at_place c) [
    | at_reports e ↦ rw e (at_first e m may signed frame)
    | at_lock e ↦ rw e (at_second e m may signed frame)
    | at_acks e ↦ rw e (at_third e m may)
    | at_release e ↦ rw e (at_fourth e m may)
  ]

pub closes : Closes
closes ring row log m old may signed frame =
    subst (λ fs. MatchesLog ring (closed row (clock_of log + 1) (opened_effects row (clock_of log + 1)) m)
    (log ++ Round (clock_of log + 1) ∷ flat_map (made_notes log (clock_of log + 1)) fs))
    (sym (made_alike ring row log old m)) (closes_row ring row log old m (may_of m may) signed frame)
  where
    may_of : (m : RoundStatement) → MayClose row log (clock_of log + 1) m → MayMakeOf row (clock_of log + 1) m
    may_of made.Mute may = tt
    may_of made.Unsent may = allowed ring row log None old may
    may_of (made.Sent f) may = allowed ring row log (Some f.statement) old may
