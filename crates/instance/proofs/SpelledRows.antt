-- After every step the instance can still be encoded, and each lock that it holds is valid.
use Rattle.std.proofs.Common.{◌≡◌, ℕ, ◌≤◌, Bool, true, false, not, inl, inr, List, [], ◌∷◌, ◌++◌, length, take, subst, arith, ◌⊎◌, ◌&&◌}
use Rattle.std.proofs.Common.{refl, sym, ap, ◌∙◌}
use Rattle.std.specs.Prelude.{filter, nat_eq, IsTrue, Option, Some, None, Ok, IfSome, slice_set, replicate}
use Rattle.std.specs.List.{flat_map}
use Rattle.std.proofs.lemmas.List.{length-map}
use Rattle.ledger_model.specs.declared.config.Config.{Config}
use Rattle.ledger_model.specs.declared.statement.Report.{Report}
use Rattle.ledger_model.specs.Values.{Value, same_value, with_value, ascending, IsValueIn}
use Rattle.ledger_model.specs.Versions.{reads}
use Rattle.ledger_model.specs.declared.version.Version.{Version}
use Rattle.ledger_model.proofs.VersionLaws.{value_within}
use Rattle.ledger_model.specs.Notes.{Has, clock_of, is_lock}
use Rattle.ledger_model.specs.Spelling.{IsValueList, IsReport, IsFrameIn, IsSignedReport}
use Rattle.lock_proofs.specs.LockTables.{SignedLock, with_lock, has_four_others, released, ends_hold}
use Rattle.ledger_model.specs.Proper.{listed_by_other, cut}
use Rattle.proper_sets.specs.Propriety.{ProperSet, absorbed, is_named_by, named_values}
use Rattle.tally.specs.Readings.{reports_of}
use Rattle.ledger_model.proofs.Lists.{with_value_has, has_with, has_map, filter_has, take_has, ascending_has, has_cases, flat_map_has}
use Rattle.ledger_model.proofs.Lists.{each_from, each_has}
use Rattle.ledger_model.proofs.Below.{ascending_ascends, with_value_ascends}
use Rattle.lock_proofs.specs.Tables.{IsTable, values_of}
use Rattle.lock_proofs.proofs.TableLaws.{with_lock-table, filter-table}
use Rattle.lock_proofs.proofs.ValueLists.{has_value, with_lock-values, with_lock_has}
use Rattle.proper_sets.proofs.Orders.{filter-ascends, take-ascends}
use Rattle.proper_sets.proofs.Cuts.{IsSmall-cut}
use Rattle.instance.specs.Matching.{IsSpelledSet, IsKeptReport, IsSpelled, IsHeldLock, IsSoundInstance}
use Rattle.std.proofs.lemmas.Bool.{cases_Bool, not-false}
use Rattle.ledger_model.specs.declared.reply.Ignored.TheVariants as cause
use Rattle.ledger_model.specs.declared.statement.Ack.{Ack}
use Rattle.ledger_model.specs.declared.statement.Lock.{Lock}
use Rattle.ledger_model.specs.declared.statement.SignedReport.{SignedReport}
use Rattle.ledger_model.specs.declared.statement.Statement.{Statement}
use Rattle.ledger_model.specs.declared.statement.Statement.TheVariants as statement
use Rattle.ledger_model.specs.declared.statement.SignedStatement.{SignedStatement}
use Rattle.ledger_model.specs.Logs.{height_of}
use Rattle.ledger_model.specs.Rounds.{phase_of, place_of, lock_place}
use Rattle.ledger_model.specs.Rules.{Ring, is_signed, is_proved, first_of}
use Rattle.tally.specs.Tallies.{Places, all_read, read_of}
use Rattle.ledger_model.proofs.Steps.{none_fits}
use Rattle.instance.specs.Instances.{InstanceView}
use Rattle.instance.specs.Reads.{row_causes, with_statement}
use Rattle.instance.specs.Plans.{placed, forgotten}
use Rattle.instance.specs.Laws.{ReadsSound}
use Rattle.tally.proofs.Puts.{read_at, read_put, none_there}
use Rattle.instance.proofs.KeptPlaces.{read_added}

-- ---- tables

table_of : {version : Version} (t : List SignedLock) → IsValueList version (values_of t) → IsTable t
table_of {version} t h = let same = length-map t (λ (s : SignedLock). s.lock.value) in grind arith

of_table : {version : Version} (t : List SignedLock) → IsTable t → ((v : Value) → Has (values_of t) v → IsValueIn version v)
    → IsValueList version (values_of t)
of_table {version} t table each = record {
  few = let few = table.few in let same = length-map t (λ (s : SignedLock). s.lock.value) in omega arith;
  each = each_from (IsValueIn version) (values_of t) each;
  ascend = table.ascends;
}

with_lock-spelled : {version : Version} (s : SignedLock) (t : List SignedLock) → IsValueIn version s.lock.value
    → IsValueList version (values_of t)
    → has_four_others s.lock.value t ≡ false
    → IsValueList version (values_of (with_lock s t))
with_lock-spelled {version} s t value h room =
    of_table (with_lock s t) (with_lock-table s t (table_of t h) room)
    (λ v k. let known = with_value_has s.lock.value (values_of t) v in let was = each_has (IsValueIn version) (values_of t) v h.each in let
    is =
    with_lock-values s t in grind arith)

filter-spelled : {version : Version} (p : SignedLock → Bool) (t : List SignedLock) → IsValueList version (values_of t)
    → IsValueList version (values_of (filter p t))
filter-spelled {version} p t h =
    of_table (filter p t) (filter-table p t (table_of t h))
    (λ v k. let m = has_map (λ (s : SignedLock). s.lock.value) (filter p t) v k in
    subst (IsValueIn version) m.1.1 (each_has (IsValueIn version) (values_of t) m.0.lock.value h.each
    (has_value t m.0 (filter_has p t m.0 m.1.0).0)))

-- ---- proper values

cut-spelled : {version : Version} (own : Value) (vs : List Value) → IsValueIn version own → ((v : Value) → Has vs v → IsValueIn version v)
    → IsValueList version (cut own vs)
cut-spelled {version} own vs own_spelled each =
    let others = filter (λ v. not (same_value own v)) (ascending vs) in
    record {
      few = (IsSmall-cut own others).few;
      each = each_from (IsValueIn version) (cut own vs)
          (λ v h.
          let known = with_value_has own (take 3 others) v h in
          let passed = filter_has (λ w. not (same_value own w)) (ascending vs) v in
          let taken = take_has 3 others v in let there = ascending_has vs v in let value = each v in grind arith);
      ascend = with_value_ascends own (take 3 others)
          (take-ascends 3 others (filter-ascends (λ v. not (same_value own v)) (ascending vs) (ascending_ascends vs)));
    }

some_there : (xs : List Value) (x : Value) → Has xs x → 1 ≤ length xs
some_there [] x h = absurd h
some_there (y ∷ ys) x h = omega arith

-- the own value is one of them
cut-some : (own : Value) (vs : List Value) → 1 ≤ length (cut own vs)
cut-some own vs =
    let others = take 3 (filter (λ v. not (same_value own v)) (ascending vs)) in
    some_there (with_value own others) own (has_with own others)

listed_there : (p : Report) (id : ℕ) (v : Value) → Has (listed_by_other id p) v → Has p.proper v
listed_there p id v h = grind arith

-- a report that can be encoded, in a statement that frames of this version carry
pub record IsReadable (version : Version) (p : Report) : Type 0 where
  pub read : IsTrue (reads version p.version)
  pub report : IsReport p

-- what is proper once the reports of a phase are absorbed
absorbed-spelled : (config : Config) (id : ℕ) (reports : List Report) (proper : ProperSet) → IsSpelledSet config.frames proper
    → ((p : Report) → Has reports p → IsReadable config.frames p)
    → IsSpelledSet config.frames (absorbed config id reports proper)
unfolding absorbed
absorbed-spelled config id reports proper h spelled = record {
  own = h.own;
  explicit = cut-spelled proper.own (proper.explicit ++ named_values config id reports) h.own
      (λ v k. elim (has_cases proper.explicit (named_values config id reports) v k) [
        | inl old ↦ each_has (IsValueIn config.frames) proper.explicit v h.explicit.each old
        | inr new ↦
            let f = flat_map_has (listed_by_other id) reports v
            (filter_has (is_named_by config id reports) (flat_map (listed_by_other id) reports) v new).0 in
            let known = spelled f.0 f.1.0 in
            value_within config.frames f.0.version v known.read
            (each_has (IsValueIn f.0.version) f.0.proper v known.report.proper.each (listed_there f.0 id v f.1.1))
      ]);
  some = cut-some proper.own (proper.explicit ++ named_values config id reports);
}

-- ---- what is kept can be spelled

abbrev AreKeptReports : Version → Places SignedReport → Type 0
AreKeptReports version reports = (r : ℕ) (s : SignedReport) → read_of reports r ≡ Some s → IsKeptReport version r s

module _ {row : InstanceView} (h : IsSpelled row) where
  -- other locks and reports, and another value that was taken; what else was read, made or decided doesn't matter
  spelled_with : {table : List SignedLock} {taken : Option Value} {reports : Places SignedReport} {acks : Places Ack}
      {made decided : Option Value}
      → IsValueList row.config.frames (values_of table) → IfSome taken (IsValueIn row.config.frames)
      → AreKeptReports row.config.frames reports
      → IsSpelled (record row { table = table; reports = reports; acks = acks; taken = taken; made = made; decided = decided })
  spelled_with locked taken reports =
      record { heights = h.heights; own = h.own; proper = h.proper; some = h.some; locked = locked; taken = taken; reports = reports }

  -- a report more, at its signer's place
  with_report : (r : ℕ) (s : SignedReport) → s.report.signer ≡ r → IsSignedReport row.config.frames s
      → (q : ℕ) (x : SignedReport) → ((q ≡ r) × (s ≡ x)) ⊎ (read_of row.reports q ≡ Some x) → IsKeptReport row.config.frames q x
  with_report r s signer spelled q x (inl new) = subst (IsKeptReport row.config.frames q) new.1
      (record { of_signer = signer ∙ sym new.0; spelled = spelled })
  with_report r s signer spelled q x (inr old) = h.reports q x old

  -- a report is kept
  pub keeps_report : (r : ℕ) (s : SignedReport) (reports : Places SignedReport) → s.report.signer ≡ r → IsSignedReport row.config.frames s
      → reports ≡ placed row.reports r s
      → IsSpelled (record row { reports = reports })
  keeps_report r s reports signer spelled is =
      spelled_with h.locked h.taken (λ q x e. with_report r s signer spelled q x
      (read_added row.reports r q s x (ap (λ ps. read_of ps q) (sym is) ∙ e)))

  -- a lock is taken
  pub keeps_lock : (s : SignedLock) (table : List SignedLock) (taken made : Option Value) → IsValueIn row.config.frames s.lock.value
      → has_four_others s.lock.value row.table ≡ false → table ≡ with_lock s row.table → taken ≡ Some s.lock.value
      → IsSpelled (record row { table = table; taken = taken; made = made })
  keeps_lock s table taken made value room is then =
      spelled_with (subst (λ t. IsValueList row.config.frames (values_of t)) (sym is) (with_lock-spelled s row.table value h.locked room))
      (subst (λ o. IfSome o (IsValueIn row.config.frames)) (sym then) value) h.reports

  -- locks are released
  pub drops_locks : (now : ℕ) (read : Lock) (table : List SignedLock) → table ≡ released now read row.table
      → IsSpelled (record row { table = table })
  drops_locks now read table is =
      spelled_with (subst (λ t. IsValueList row.config.frames (values_of t)) (sym is)
      (filter-spelled (λ (m : SignedLock). not (ends_hold now read m.lock)) row.table h.locked)) h.taken h.reports

  -- another set is proper, and another value is decided
  pub keeps_proper : (proper : ProperSet) (decided : Option Value) → IsSpelledSet row.config.frames proper
      → IsSpelled (record row { proper = proper; decided = decided })
  keeps_proper proper decided set =
      record {
        heights = h.heights;
        own = set.own;
        proper = set.explicit;
        some = set.some;
        locked = h.locked;
        taken = h.taken;
        reports =
            h.reports;
      }

  -- nothing was read in the phase that opens
  pub forgets : (n : ℕ) {acks : Places Ack} {made decided : Option Value}
      → IsSpelled (record row { reports = replicate n None; acks = acks; taken = None; made = made; decided = decided })
  forgets n = spelled_with h.locked tt (λ r s e. absurd (cc (none_there {X = SignedReport} n r, e)))

  -- each report has a spelling
  pub each_spelled : (p : Report) → Has (reports_of (all_read row.reports)) p → IsReadable row.config.frames p
  each_spelled p has =
      let signed = has_map (λ (s : SignedReport). s.report) (all_read row.reports) p has in
      let at = read_at row.reports signed.0 signed.1.0 in
      let known = (h.reports at.0 signed.0 at.1).spelled in
      subst (IsReadable row.config.frames) signed.1.1 (record { read = known.read; report = known.report })

  -- and so has what they make proper
  pub absorbs : IsSpelledSet row.config.frames (absorbed row.config row.id (reports_of (all_read row.reports)) row.proper)
  absorbs = absorbed-spelled row.config row.id (reports_of (all_read row.reports)) row.proper
      (record { own = h.own; explicit = h.proper; some = h.some }) each_spelled

-- ---- and each held lock is one

module _ {ring : Ring} {row : InstanceView} (h : IsSoundInstance ring row) where
  -- what else was read, made or decided doesn't matter
  pub still_sound : {acks : Places Ack} {made decided : Option Value}
      → IsSoundInstance ring (record row { acks = acks; made = made; decided = decided })
  still_sound = record { spelled = spelled_with h.spelled h.spelled.locked h.spelled.taken h.spelled.reports; held = h.held }

  -- as a phase opens, and once its reports are absorbed
  pub forgets_soundly : {decided : Option Value} → IsSoundInstance ring (record (forgotten row) { decided = decided })
  forgets_soundly = record { spelled = forgets h.spelled row.config.replicas; held = h.held }

  pub absorbs_soundly : {decided : Option Value}
      → IsSoundInstance ring (record row { proper = absorbed row.config row.id (reports_of (all_read row.reports)) row.proper; decided = decided })
  absorbs_soundly = record { spelled = keeps_proper h.spelled _ _ (absorbs h.spelled); held = h.held }

  -- a report is kept, a lock is taken, locks are released
  pub sound_report : (p : SignedReport) → IsSignedReport row.config.frames p
      → IsSoundInstance ring (record row { reports = slice_set row.reports p.report.signer (Some p) })
  sound_report p spelled = record {
    spelled = spelled_with h.spelled h.spelled.locked h.spelled.taken
        (λ q x e. with_report h.spelled p.report.signer p refl spelled q x (read_put row.reports p.report.signer q p x e));
    held = h.held;
  }

  pub sound_lock : (s : SignedLock) → IsHeldLock ring row.config row.height s → has_four_others s.lock.value row.table ≡ false
      → IsSoundInstance ring (record row { table = with_lock s row.table; taken = Some s.lock.value })
  sound_lock s held room = record {
    spelled = keeps_lock h.spelled s _ _ _ (value_within row.config.frames s.lock.version s.lock.value held.frame.read
        held.frame.statement.value)
        room refl refl;
    held = λ m k. elim (with_lock_has s row.table h.spelled.locked.ascend m k) [
      | inl e ↦
          subst (IsHeldLock ring row.config row.height) e held
      | inr old ↦ h.held m old.0
    ];
  }

  sound_released : (now : ℕ) (l : Lock) → IsSoundInstance ring (record row { table = released now l row.table })
  sound_released now l = record {
    spelled = drops_locks h.spelled now l _ refl;
    held = λ m k. h.held m (filter_has (λ (x : SignedLock). not (ends_hold now l x.lock)) row.table m k).0;
  }

-- ---- what is read

-- of a statement that no cause ignores
record IsRight (ring : Ring) (row : InstanceView) (c : ℕ) (s : SignedStatement) : Type 0 where
  signed : is_signed ring s ≡ true
  proved : is_lock (λ l. not (is_proved row.config ring l)) s.statement ≡ false
  room : (nat_eq (place_of c) lock_place && is_lock (λ l. has_four_others l.value row.table) s.statement) ≡ false

is_right : (ring : Ring) (row : InstanceView) (c : ℕ) (s : SignedStatement) → first_of (row_causes row ring c s) ≡ Ok tt
    → IsRight ring row c s
is_right ring row c s ok = record {
  signed = not-false (is_signed ring s)
      (none_fits (row_causes row ring c s) tt (not (is_signed ring s)) cause.BadSignature ok refl);
  proved = none_fits (row_causes row ring c s) tt _ cause.BadProof ok refl;
  room = none_fits (row_causes row ring c s) tt _ cause.TableFull ok refl;
}

sound_read : (ring : Ring) (row : InstanceView) (c : ℕ) (signature : List ℕ) (s : Statement) → IsSoundInstance ring row → height_of s ≡ row.height
    → IsFrameIn row.config.frames (record { statement = s; signature = signature })
    → IsRight ring row c (record { statement = s; signature = signature })
    → IsSoundInstance ring (with_statement row c signature s)
sound_read ring row c signature (statement.Report r) h height frame right =
    sound_report h (record { report = r; signature = signature })
    (record { read = frame.read; report = frame.statement; signature = frame.signature })
sound_read ring row c signature (statement.Ack a) h height frame right = still_sound h
sound_read ring row c signature (statement.Lock l) h height frame right = elim (cases_Bool (nat_eq (place_of c) lock_place)) [
  | inl second ↦
      let lock : SignedLock = record { lock = l; signature = signature } in
      let held : IsHeldLock ring row.config row.height lock =
      record {
        of_height = height;
        frame = frame;
        signed = right.signed;
        proved =
            not-false (is_proved row.config ring l) right.proved;
      } in
      rw second (sound_lock h lock held (rw second at right.room))
  | inr other ↦ rw other (sound_released h (phase_of c) l)
]

pub reads_sound : ReadsSound
reads_sound ring row log s m height frame ok =
    sound_read ring row (clock_of log) s.signature s.statement m.sound height frame (is_right ring row (clock_of log) s ok)
