-- The instance allows exactly what the log allows, and so it may make what it chooses.
use Rattle.std.proofs.Common.{◌≡◌, ℕ, ◌+◌, false, inl, inr, List, ◌∷◌, refl, sym, ap, ◌∙◌, arith, ◌&&◌, [], ◌++◌, subst}
use Rattle.std.specs.Prelude.{nat_eq, Option, Some, None, map}
use Rattle.std.proofs.lemmas.Bool.{cases_Bool, and_parts}
use Rattle.ledger_model.specs.declared.version.Version.TheVariants.{Two}
use Rattle.ledger_model.specs.Values.{Value}
use Rattle.ledger_model.specs.Rounds.{phase_of, place_of, owner_of, ack_place, report_place}
use Rattle.ledger_model.specs.Notes.{Note, clock_of, open_of, Has}
use Rattle.ledger_model.specs.Locks.{value_taken, is_supported}
use Rattle.ledger_model.specs.Logs.{own_ack}
use Rattle.ledger_model.specs.Rules.{Ring, MayMake, MayMakeOpen, MayLock, IsOwnLock, is_signed, with_signature, report_of, acks_of}
use Rattle.instance.specs.declared.round_statement.RoundStatement.{RoundStatement}
use Rattle.instance.specs.declared.round_statement.RoundStatement.TheVariants as made
use Rattle.instance.specs.Instances.{InstanceView}
use Rattle.instance.specs.Matching.{MatchesLog, MatchesIn, proper_phase}
use Rattle.instance.specs.Plans.{unsent_ack, unsent_frames, made_by, opened_effects, own_report, sent_ack, chosen_lock, chosen_statement, MaySend}
use Rattle.instance.specs.Plans.{MaySendLock, IsOwnLockOf}
use Rattle.instance.specs.Laws.{made_in, Allows, Allowed, Chooses, ProvesSigned, SendsOn, SendsLocks, IsLockSentOn, with_unsent}
use Rattle.instance.specs.Laws.{as_statements}
use Rattle.ledger_model.proofs.AtPlace.{at_place, at_reports, at_lock, at_acks, at_release}
use Rattle.std.proofs.lemmas.Bool.Decides.{nat_tests}
use Rattle.std.specs.List.{list_all}
use Rattle.std.proofs.lemmas.Simd.{map-map}
use Rattle.ledger_model.specs.declared.statement.Lock.{Lock}
use Rattle.ledger_model.specs.declared.statement.SignedStatement.{SignedStatement}
use Rattle.ledger_model.specs.declared.statement.Statement.{Statement}
use Rattle.ledger_model.specs.declared.statement.Statement.TheVariants as statement
use Rattle.ledger_model.specs.Spelling.{frame_bytes}
use Rattle.lock_proofs.specs.LockTables.{SignedLock, as_statement}
use Rattle.ledger_model.specs.Validity.{is_quorate, is_supporting}
use Rattle.ledger_model.proofs.FrameReading.{reading-again, any_frame}
use Rattle.ledger_model.proofs.Lists.{all_from, has_map, each_from}
use Rattle.tally.specs.Readings.{reports_of}
use Rattle.phase_core.specs.Choices.{is_found_by, chosen}
use Rattle.tally.specs.Tallies.{all_read}
use Rattle.lock_proofs.proofs.HeldLocks.{values_are_held}
use Rattle.phase_core.proofs.Logs.{found_is_supported}
use Rattle.proper_sets.specs.Laws.{proper_at}
use Rattle.instance.proofs.MaySend.{lock_allowed}
use Rattle.instance.proofs.KeptPlaces.{are_read_in}
use Rattle.phase_core.proofs.Choosing.{chosen_found, none_chosen}
use Rattle.instance.proofs.OwnLocks.{own_lock_right}

-- by the value that was taken
of_taken : (row : InstanceView) (log : List Note) (c : ℕ) → open_of log ≡ Some row.proper.own → place_of c ≡ ack_place
    → (taken : Option Value) → taken ≡ value_taken log (phase_of c)
    → own_ack row.config row.id row.height log c false ≡ unsent_frames (unsent_ack row (phase_of c) taken)
unfolding own_ack
of_taken row log c opened place taken is = rw (opened, place) (grind arith)

-- each leads to the other
abbrev Alike : Type 0 → Type 0 → Type 0
Alike A B = (A → B) × (B → A)

-- ---- lists of statements

-- those that are made beside what is sent
abbrev beside : Option Statement → List SignedStatement → List Statement
beside sent unsent = as_statements sent ++ map (λ s. s.statement) unsent

one_alike : (sent : Option Statement) (s : Statement) → Alike (sent ≡ Some s) (beside sent [] ≡ s ∷ [])
one_alike sent s = grind arith

none_alike : (sent : Option Statement) → Alike (sent ≡ None) (beside sent [] ≡ [])
none_alike sent = grind arith

module _ (ring : Ring) (row : InstanceView) (log : List Note) (m : MatchesLog ring row log) where
  abbrev c : ℕ
  c = clock_of log + 1

  abbrev k : ℕ
  k = phase_of (clock_of log + 1)

  -- what is known in each round of a phase but the first
  now_in : (place_of c ≡ report_place → ⊥) → MatchesIn ring row log k
  now_in later = subst (MatchesIn ring row log) (omega (arith, later)) m

  -- ---- the acknowledgement that an owner makes of its own lock and doesn't send

  own_ack_is : own_ack row.config row.id row.height log c false ≡ unsent_frames (opened_effects row c).unsent
  unfolding own_ack opened_effects
  own_ack_is = elim (at_place c) [
    | at_reports e ↦ rw (m.opened, e) refl
    | at_lock e ↦ rw (m.opened, e) refl
    | at_acks e ↦
        let same : phase_of (clock_of log) ≡ phase_of c = omega (arith, e) in
        let unsent : unsent_ack row (phase_of c) row.taken ≡ (opened_effects row c).unsent = rw e refl in
        of_taken row log c m.opened e row.taken (rw same at m.lock.taken) ∙ ap unsent_frames unsent
    | at_release e ↦ rw (m.opened, e) refl
  ]

  -- so what is made is the same
  pub made_alike : (what : RoundStatement) → made_in row log c what ≡ made_by (opened_effects row c).unsent what
  unfolding own_ack
  made_alike made.Mute = refl
  made_alike made.Unsent = own_ack_is
  made_alike (made.Sent f) = ap (λ fs. f ∷ fs) own_ack_is

  -- ---- the report

  report_alike : place_of c ≡ report_place → own_report row k ≡ report_of row.config row.id row.height log k row.proper.own
  unfolding report_of
  report_alike place =
      let phase : proper_phase (clock_of log) ≡ k = grind (arith, nat_tests) in
      let proper = m.proper ∙ ap (λ j. proper_at row.config row.id log j row.proper.own) phase in
      let held = values_are_held log row.table m.locks in
      λ i. record {
        version = row.config.frames;
        height = row.height;
        phase = k;
        signer = row.id;
        all = (proper i).all;
        initial =
            row.proper.own;
        proper = (proper i).explicit;
        locked = held i;
      }

  -- ---- the lock

  module _ (now : MatchesIn ring row log (phase_of (clock_of log + 1))) where
    supported : (v : Value) → is_found_by row.config (reports_of (all_read row.reports)) v ≡ is_supported row.config log k v
    supported = found_is_supported row.config log k (reports_of (all_read row.reports)) (are_read_in ring row log k now)

    own_alike : (l : Lock) → Alike (IsOwnLockOf row k l) (IsOwnLock row.config row.id row.height log k l)
    own_alike l = (
      λ h. record {
        of_version = h.of_version;
        of_height = h.of_height;
        of_phase = h.of_phase;
        own = h.own;
        quorate = h.quorate;
        supporting = h.supporting;
        read =
            λ s has. (now.reports.kept s.report.signer s (h.kept s has)).read;
      },
      λ h. record {
        of_version = h.of_version;
        of_height = h.of_height;
        of_phase = h.of_phase;
        own = h.own;
        quorate = h.quorate;
        supporting = h.supporting;
        kept =
            λ s has. now.reports.every s (h.read s has);
      },
    )

    lock_alike : (sent : Option Statement) → Alike (MaySendLock row k sent) (MayLock row.config row.id row.height log k (beside sent []))
    lock_alike sent = (
      λ may. elim may [
        | inl own ↦ inl (own.0, (one_alike sent (statement.Lock own.0)).0 own.1, (own_alike own.0).0 own.2)
        | inr none ↦ inr ((none_alike sent).0 none.0, λ v. sym (supported v) ∙ none.1 v)
      ],
      λ may. elim may [
        | inl own ↦ inl (own.0, (one_alike sent (statement.Lock own.0)).1 own.1, (own_alike own.0).1 own.2)
        | inr none ↦ inr ((none_alike sent).1 none.0, λ v. supported v ∙ none.1 v)
      ],
    )

    chosen_may : (o : Option Value) → chosen row.config (reports_of (all_read row.reports)) row.proper.own ≡ o
        → MaySendLock row k (chosen_lock row k o)
    chosen_may o e =
        let none = none_chosen row.config (reports_of (all_read row.reports)) row.proper.own in
        let found = chosen_found row.config (reports_of (all_read row.reports)) row.proper.own in
        let right = own_lock_right ring row log k now in
        grind arith

  -- ---- the acknowledgement

  ack_alike : (sent : Option Statement) (taken : Option Value)
      → Alike (sent ≡ sent_ack row k taken) (beside sent (unsent_frames (unsent_ack row k taken))
      ≡ acks_of row.config row.id row.height k taken)
  ack_alike sent taken = grind arith

  -- ---- in any round

  open_alike : (sent : Option Statement)
      → Alike (MaySend row c sent) (MayMakeOpen row.config row.id row.height log c row.proper.own
      (beside sent (unsent_frames (opened_effects row c).unsent)))
  unfolding opened_effects
  open_alike sent = elim (at_place c) [
    | at_reports e ↦ rw e (subst (λ r. Alike (sent ≡ Some (statement.Report (own_report row k)))
        (beside sent [] ≡ statement.Report r ∷ [])) (report_alike e) (one_alike sent (statement.Report (own_report row k))))
    | at_lock e ↦ elim (cases_Bool (nat_eq (owner_of row.config k) row.id)) [
      | inl mine ↦ rw (e, mine) (lock_alike (now_in (λ f. omega (arith, e, f))) sent)
      | inr other ↦ rw (e, other) (none_alike sent)
    ]
    | at_acks e ↦ rw e (subst (λ o. Alike (sent ≡ sent_ack row k row.taken)
        (beside sent (unsent_frames (unsent_ack row k row.taken)) ≡ acks_of row.config row.id row.height k o))
        (now_in (λ f. omega (arith, e, f))).lock.taken (ack_alike sent row.taken))
    | at_release e ↦ rw e (none_alike sent)
  ]

  -- the height is open
  sent_alike : (sent : Option Statement)
      → Alike (MaySend row c sent) (MayMake row.config row.id row.height log c false (with_unsent (as_statements sent) row log c false))
  unfolding MayMake
  sent_alike sent = rw m.opened (rw own_ack_is (open_alike sent))

  -- what is chosen
  choice_may : MaySend row c (chosen_statement row c)
  unfolding chosen_statement
  choice_may = elim (at_place c) [
    | at_reports e ↦ rw e refl
    | at_lock e ↦ elim (cases_Bool (nat_eq (owner_of row.config k) row.id)) [
      | inl mine ↦ rw (e, mine) (chosen_may (now_in (λ f. omega (arith, e, f)))
          (chosen row.config (reports_of (all_read row.reports)) row.proper.own) refl)
      | inr other ↦ rw (e, other) refl
    ]
    | at_acks e ↦ rw e refl
    | at_release e ↦ rw e refl
  ]

pub allows : Allows
allows ring row log sent m h = (sent_alike ring row log m sent).0 h

pub allowed : Allowed
allowed ring row log sent m h = (sent_alike ring row log m sent).1 h

pub chooses : Chooses
chooses ring row log m = choice_may ring row log m

pub proves_signed : ProvesSigned
proves_signed ring row log (statement.Report r) m h = refl
proves_signed ring row log (statement.Ack a) m h = refl
proves_signed ring row log (statement.Lock l) m h =
    let own = lock_allowed row (clock_of log + 1) l h in
    let place = own.0 in
    let now : MatchesIn ring row log (phase_of (clock_of log + 1)) = now_in ring row log m (λ e. omega (arith, e, place)) in
    all_from (λ s. is_signed ring (with_signature s)) l.proof (λ s has. (now.reports.kept s.report.signer s (own.1.kept s has)).signed)

pub sends_on : SendsOn
unfolding opened_effects
sends_on ring row log m place = rw place (sym (map-map frame_bytes as_statement row.table) ∙ ap (map frame_bytes) m.locks)

-- what is sent on are locks of the height, signed
pub sends_locks : SendsLocks
unfolding opened_effects
sends_locks ring row log c m = elim (at_place c) [
  | at_reports e ↦ rw e tt
  | at_lock e ↦ rw e tt
  | at_acks e ↦ rw e tt
  | at_release e ↦ rw e (each_from (IsLockSentOn ring row.height) (map (λ s. frame_bytes (as_statement s)) row.table) sent)
]
  where
    sent : (frame : List ℕ) → Has (map (λ s. frame_bytes (as_statement s)) row.table) frame → IsLockSentOn ring row.height frame
    sent frame h =
        let s = has_map (λ (x : SignedLock). frame_bytes (as_statement x)) row.table frame h in
        let held = m.sound.held s.0 s.1.0 in
        let proved = and_parts (is_quorate row.config s.0.lock && list_all (λ p. is_signed ring (with_signature p)) s.0.lock.proof)
        (is_supporting s.0.lock) held.proved in
        subst (IsLockSentOn ring row.height) s.1.1 (record {
          lock = s.0;
          is = refl;
          reads = reading-again Two (as_statement s.0) (any_frame row.config.frames (as_statement s.0) held.frame);
          of_height = held.of_height;
          signed = held.signed;
          proof_signed = (and_parts (is_quorate row.config s.0.lock) (list_all (λ p. is_signed ring (with_signature p)) s.0.lock.proof)
              proved.0).1;
        })
