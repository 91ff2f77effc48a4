-- An audit that finds no fault shows that the histories have one ledger.
use Rattle.ledger_model.specs.Meanings.{Meanings}
use Rattle.std.proofs.Common.{◌≡◌, ℕ, ◌+◌, ◌≤◌, ◌<◌, Bool, true, false, not, ◌&&◌, ◌||◌, inl, inr, List, [], ◌∷◌, ◌++◌, length, map}
use Rattle.std.proofs.Common.{refl, sym, ap, subst, ◌∙◌, append_assoc, arith}
use Rattle.std.specs.Prelude.{nat_eq, nat_lt, nat_le, find, Some, Ok, is_some, slice_get}
use Rattle.std.specs.List.{list_any, list_all}
use Rattle.std.proofs.lemmas.List.{append-nil}
use Rattle.std.proofs.lemmas.Bool.{and_parts, cases_Bool, both_ways, eqb-true, eq-eqb, leb-true, ltb-true, not-true}
use Rattle.ledger_model.specs.declared.config.Config.{Config}
use Rattle.ledger_model.specs.declared.event.Event.{Event}
use Rattle.ledger_model.specs.declared.event.Event.TheVariants as event
use Rattle.ledger_model.specs.declared.reply.Reply.{Reply}
use Rattle.ledger_model.specs.declared.reply.Reply.TheVariants as reply
use Rattle.ledger_model.specs.declared.history.Entry.{Entry}
use Rattle.ledger_model.specs.declared.history.History.{History}
use Rattle.ledger_model.specs.declared.statement.Lock.{Lock}
use Rattle.ledger_model.specs.declared.statement.SignedReport.{SignedReport}
use Rattle.ledger_model.specs.declared.statement.SignedStatement.{SignedStatement}
use Rattle.ledger_model.specs.declared.statement.Statement.{Statement}
use Rattle.ledger_model.specs.declared.statement.Statement.TheVariants as statement
use Rattle.ledger_model.specs.Rounds.{count_from, round_at, report_place}
use Rattle.ledger_model.specs.Notes.{Note, OwnStatement, Read, Has, clock_of, signer_of}
use Rattle.ledger_model.specs.Logs.{height_of, statements_made, notes_of, log_after, log_of}
use Rattle.ledger_model.specs.Spelling.{statement_bytes}
use Rattle.ledger_model.proofs.FrameReading.{reading-reads}
use Rattle.ledger_model.specs.Reading.{reading, reading_in}
use Rattle.ledger_model.specs.Rules.{Ring, answer_to, with_signature}
use Rattle.ledger_model.specs.Lawful.{Lawful, answer, Follows, Replay}
use Rattle.ledger_model.specs.Groups.{history_of, is_correct, log_if, log_in, Backed, BackedWhole, AreCorrect, ReadsBacked}
use Rattle.ledger_model.specs.Pools.{is_among}
use Rattle.ledger_model.specs.Values.{same_bytes}
use Rattle.ledger_model.specs.Audits.{all_differ, are_of_a_quorum, AreReplays, own_sent, statements_in, accepts, is_unsent, unsent_in}
use Rattle.ledger_model.specs.Audits.{NothingUnsent, AuditedHistoriesHaveLedger}
use Rattle.ledger_model.proofs.Counting.{count_with}
use Rattle.ledger_model.proofs.Lists.{any_has, all_has, any_mapped, each_has, has_cases, has_right, has_filter, pointwise_equal, found_has}
use Rattle.ledger_model.proofs.Goodness.{made_cases, lock_made, height_made}
use Rattle.ledger_model.proofs.Steps.{made_note, note_read, map_has, log_of-snoc, replays_follow}
use Rattle.ledger_model.proofs.Staying.{count_same}
use Rattle.ledger_model.proofs.Floors.{each_entry}
use Rattle.ledger_laws.proofs.Ledgers.{count_all, some_history, one_ledger}
use Rattle.ledger_laws.proofs.Backing.{has_made_note, signer_made, delivered_only, no_read, none_retired}
use Rattle.ledger_laws.proofs.WorldRuns.{get_seam}
use Rattle.ledger_laws.proofs.Encodings.{FitsSigned, FitsLock, FitsWidths, fitting_once}
use Rattle.ledger_laws.proofs.SentStatements.{accepted_fits, note_stays, own_note}

-- ---- how many replicas have a history

-- a search finds something if some element passes
some_found : {X : Type 0} (p : X → Bool) (xs : List X) → is_some (find p xs) ≡ list_any p xs
some_found p [] = refl
some_found p (x ∷ xs) = elim (cases_Bool (p x)) [ inl passes ↦ simp passes | inr fails ↦ simp fails (some_found p xs) ]

-- histories of different replicas leave n minus their number without a history
lacking : (n : ℕ) (histories : List History) → list_all (λ (m : History). nat_lt m.replica n) histories ≡ true
    → all_differ (map (λ (m : History). m.replica) histories) ≡ true
    → count_from 0 n (λ r. not (is_correct histories r)) + length histories ≡ n
lacking n [] below apart = let all = count_all 0 n in omega arith
lacking n (m ∷ ms) below apart =
    let below_parts = and_parts (nat_lt m.replica n) (list_all (λ (x : History). nat_lt x.replica n) ms) below in
    let apart_parts = and_parts (not (list_any (λ y. nat_eq y m.replica) (map (λ (x : History). x.replica) ms)))
    (all_differ (map (λ (x : History). x.replica) ms)) apart in
    let low : m.replica < n = ltb-true m.replica n below_parts.0 in
    let none : is_correct ms m.replica ≡ false =
    some_found (λ (x : History). nat_eq x.replica m.replica) ms
    ∙ sym (any_mapped (λ y. nat_eq y m.replica) (λ (x : History). x.replica) ms)
    ∙ not-true (list_any (λ y. nat_eq y m.replica) (map (λ (x : History). x.replica) ms)) apart_parts.0 in
    let others = lacking n ms below_parts.1 apart_parts.1 in
    let now = count_same (λ r. not (is_correct (m ∷ ms) r)) (λ r. not (nat_eq r m.replica) && not (is_correct ms r)) now_lacks 0 n in
    let before = count_same (λ r. not (is_correct ms r)) (λ r. nat_eq r m.replica || not (is_correct ms r)) (lacked none) 0 n in
    let one = count_with (λ r. not (is_correct ms r)) m.replica 0 n (omega arith) (omega arith) in
    omega (arith, others, now, before, one)
  where
    now_lacks : (r : ℕ) → not (is_correct (m ∷ ms) r) ≡ (not (nat_eq r m.replica) && not (is_correct ms r))
    now_lacks r = elim (cases_Bool (nat_eq r m.replica)) [
      | inl same ↦ (let turned : nat_eq m.replica r ≡ true = eq-eqb m.replica r (sym (eqb-true r m.replica same))
          in simp (same, turned))
      | inr other ↦ elim (cases_Bool (nat_eq m.replica r)) [
        | inl same ↦ absurd (both_ways (nat_eq r m.replica) other (eq-eqb r m.replica (sym (eqb-true m.replica r same))))
        | inr turned ↦ simp (other, turned)
      ]
    ]

    lacked : is_correct ms m.replica ≡ false → (r : ℕ) → not (is_correct ms r) ≡ (nat_eq r m.replica || not (is_correct ms r))
    lacked none r = elim (cases_Bool (nat_eq r m.replica)) [
      | inl same ↦ (let here : not (is_correct ms r) ≡ true =
          ap (λ x. not (is_correct ms x)) (eqb-true r m.replica same) ∙ ap not none in here ∙ sym (simp same))
      | inr other ↦ simp other
    ]

-- histories of a quorum are at most as many as the cluster has replicas
pub quorum_fits : (config : Config) (histories : List History) → are_of_a_quorum config histories ≡ true
    → length histories ≤ config.replicas
quorum_fits config histories count =
    let parts = and_parts (nat_le config.replicas (length histories + config.faults)
    && list_all (λ (m : History). nat_lt m.replica config.replicas) histories)
    (all_differ (map (λ (m : History). m.replica) histories)) count
    in
    let ends = and_parts (nat_le config.replicas (length histories + config.faults))
    (list_all (λ (m : History). nat_lt m.replica config.replicas) histories) parts.0 in
    omega (arith, lacking config.replicas histories ends.1 parts.1)

-- counted histories that replay are those of correct replicas
pub are_correct : (meaning : Meanings) (config : Config) (ring : Ring) (histories : List History) → are_of_a_quorum config histories ≡ true
    → AreReplays meaning config ring histories → AreCorrect meaning config ring histories
unfolding Replay Follows
are_correct meaning config ring histories count replay =
    let parts = and_parts (nat_le config.replicas (length histories + config.faults)
    && list_all (λ (m : History). nat_lt m.replica config.replicas) histories)
    (all_differ (map (λ (m : History). m.replica) histories)) count
    in
    let ends = and_parts (nat_le config.replicas (length histories + config.faults))
    (list_all (λ (m : History). nat_lt m.replica config.replicas) histories) parts.0 in
    let enough = leb-true config.replicas (length histories + config.faults) ends.0 in
    let rest = lacking config.replicas histories ends.1 parts.1 in
    record {
      follows = λ r m found. replays_follow meaning config ring r [] m.entries (replay r m found);
      below = λ r is.
          let m = some_history (history_of histories r) is in
          let has = found_has (λ (x : History). nat_eq x.replica r) histories m.0 m.1 in
          let low = ltb-true m.0.replica config.replicas
          (all_has (λ (x : History). nat_lt x.replica config.replicas) histories m.0 ends.1 has.0) in
          let same = eqb-true m.0.replica r has.1 in
          omega (arith, low, same);
      enough = omega (arith, enough, rest);
    }

-- ---- what was read is backed

in_itself : (s : Statement) → Has (statements_in s) s
in_itself (statement.Report r) = inl refl
in_itself (statement.Lock l) = inl refl
in_itself (statement.Ack a) = inl refl

in_proof : (s : Statement) (l : Lock) (p : SignedReport) → s ≡ statement.Lock l → Has l.proof p
    → Has (statements_in s) (statement.Report p.report)
in_proof s l p is has =
    subst (λ (x : Statement). Has (statements_in x) (statement.Report p.report)) (sym is)
    (inr (map_has (λ (x : SignedReport). statement.Report x.report) l.proof p has))

-- an accepted frame's entry accepts the statement in the frame and the reports in its proof
accepted_has : (bytes : List ℕ) (u : Unit {0}) (s : SignedStatement) (t : Statement) → reading bytes ≡ Some s
    → Has (statements_in s.statement) t → Has (accepts (event.Deliver bytes) (reply.Delivered (Ok u))) t
accepted_has bytes u s t e has = rw e has

among_has : (texts : List (List ℕ)) (text : List ℕ) → is_among texts text ≡ true → Has texts text
among_has texts text is =
    let any = any_has (same_bytes text) texts is in
    subst (Has texts) (sym (pointwise_equal nat_eq eqb-true text any.0 any.1.1)) any.1.0

module _ (meaning : Meanings) (config : Config) (ring : Ring) (histories : List History) (replay : AreReplays meaning config ring histories)
    (sent : NothingUnsent histories) where
  lawful_history : (r : ℕ) (m : History) → history_of histories r ≡ Some m → Follows meaning config ring r m.entries
  unfolding Replay Follows
  lawful_history r m found = replays_follow meaning config ring r [] m.entries (replay r m found)

  -- each statement that an entry accepts is among those that its signer's history sends
  accepted_sent : (r i : ℕ) (m : History) (e : Entry) → history_of histories r ≡ Some m → slice_get m.entries i ≡ Some e
      → (t : Statement) → Has (accepts e.event e.reply) t → (n : History) → history_of histories (signer_of t) ≡ Some n
      → Has (own_sent n.entries) (statement_bytes t)
  unfolding unsent_in
  accepted_sent r i m e found at t has n signer =
      elim (cases_Bool (is_among (own_sent n.entries) (statement_bytes t))) [
        | inl among ↦ among_has (own_sent n.entries) (statement_bytes t) among
        | inr lacks ↦
            let unsent : is_unsent histories t ≡ true = rw signer (ap not lacks) in
            absurd (sent r i (signer_of t) (record {
              history = m;
              of = found;
              entry = e;
              at = at;
              unsent = map_has signer_of _ t (has_filter (is_unsent histories) (accepts e.event e.reply) t has unsent);
            }))
      ]

  -- what an entry accepts is backed
  accepted_backed : (r i : ℕ) (m : History) (e : Entry) → history_of histories r ≡ Some m → slice_get m.entries i ≡ Some e
      → (t : Statement) → Has (accepts e.event e.reply) t → FitsWidths t → Backed config histories t
  accepted_backed r i m e found at t has fits = λ is.
      let n = some_history (history_of histories (signer_of t)) is in
      let note = own_note meaning config ring (signer_of t) n.0.entries (lawful_history (signer_of t) n.0 n.1) (statement_bytes t)
      (accepted_sent r i m e found at t has n.0 n.1) in
      let same : note.made ≡ t = fitting_once note.made t note.fits fits note.spelled in
      let there : Has (log_of config (signer_of t) (height_of t) n.0.entries) (OwnStatement note.round t) =
      subst (λ (x : Statement). Has (log_of config (signer_of t) (height_of x) n.0.entries) (OwnStatement note.round x)) same note.note in
      (note.round, subst (λ o. Has (log_if config (height_of t) (signer_of t) o) (OwnStatement note.round t)) (sym n.1) there)

  module _ (r : ℕ) (m : History) (found : history_of histories r ≡ Some m) where
    -- what is read in these first entries is backed
    abbrev FrontBacked : List Entry → Type 0
    FrontBacked front = (h c : ℕ) (s : SignedStatement) → Has (log_of config r h front) (Read c s)
        → BackedWhole config histories s.statement

    -- what an entry notes as made is backed
    made_backed : (front back : List Entry) (e : Entry) → m.entries ≡ (front ++ e ∷ []) ++ back → (h c : ℕ) (s : SignedStatement)
        → Has (notes_of config r h (log_of config r h front) e.event e.reply) (OwnStatement c s.statement)
        → signer_of s.statement ≡ r → height_of s.statement ≡ h
        → Backed config histories s.statement
    unfolding log_of
    made_backed front back e is h c s note signer height = λ _.
        let after : Has (log_of config r h (front ++ e ∷ [])) (OwnStatement c s.statement) =
        subst (λ l. Has l (OwnStatement c s.statement)) (sym (log_of-snoc meaning config ring r h [] front e))
        (has_right (log_of config r h front) _ (OwnStatement c s.statement) note) in
        let in_end : Has (log_of config r h m.entries) (OwnStatement c s.statement) =
        subst (λ es. Has (log_of config r h es) (OwnStatement c s.statement)) (sym is)
        (note_stays config r h (front ++ e ∷ []) back (OwnStatement c s.statement) after) in
        let there : Has (log_in config histories h r) (OwnStatement c s.statement) =
        subst (λ o. Has (log_if config h r o) (OwnStatement c s.statement)) (sym found) in_end in (
          c,
          subst (λ x. Has (log_in config histories x (signer_of s.statement)) (OwnStatement c s.statement)) (sym height)
              (subst (λ x. Has (log_in config histories h x) (OwnStatement c s.statement)) (sym signer) there),
        )

    -- what one entry more reads is backed
    new_backed : (front back : List Entry) (e : Event) (a : Reply) → m.entries ≡ (front ++ record { event = e; reply = a } ∷ []) ++ back
        → Follows meaning config ring r front → Lawful meaning config ring r front e a → FrontBacked front
        → (h c : ℕ) (s : SignedStatement) → Has (notes_of config r h (log_of config r h front) e a) (Read c s)
        → BackedWhole config histories s.statement
    unfolding notes_of
    new_backed front back (event.Deliver bytes) (reply.Delivered (Ok u)) is follows lawful known h c s has =
        let entry : Entry = record { event = event.Deliver bytes; reply = reply.Delivered (Ok u) } in
        let told = delivered_only (reading_in config.frames bytes) (clock_of (log_of config r h front)) h c s has in
        let ok : answer_to config ring (log_of config r (height_of s.statement) front) s ≡ Ok u =
        subst (λ o. answer config ring r front o ≡ Ok u) (told.0) (sym lawful) in
        let read = (reading-reads config.frames bytes s told.0).0 in
        let fits = accepted_fits meaning config ring r front bytes s u follows read ok in
        let at : slice_get m.entries (length front) ≡ Some entry =
        ap (λ es. slice_get es (length front)) (is ∙ append_assoc front (entry ∷ []) back) ∙ get_seam front entry back in
        record {
          own = accepted_backed r (length front) m entry found at s.statement
              (accepted_has bytes u s s.statement read (in_itself s.statement)) fits;
          reports = λ l p lock has_p.
              let fits_l : FitsLock l = subst FitsWidths lock fits in
              let fits_p = each_has FitsSigned l.proof p fits_l.proof has_p in
              accepted_backed r (length front) m entry found at (statement.Report p.report)
              (accepted_has bytes u s (statement.Report p.report) read (in_proof s.statement l p lock has_p)) fits_p.report;
        }
    new_backed front back event.RoundEnd (reply.RoundEnded (Ok ended)) is follows lawful known h c s has =
        let entry : Entry = record { event = event.RoundEnd; reply = reply.RoundEnded (Ok ended) } in
        let log : List Note = log_of config r h front in
        let d : ℕ = clock_of log + 1 in
        let ss : List SignedStatement = statements_made config r h log d ended in
        let its : Has ss s = elim has [
          | inl e ↦
              absurd (cc)
          | inr y ↦ (note_read d ss c s (made_note log d ss (Read c s) y)).1
        ] in
        let made : List Statement = map (λ x. x.statement) ss in
        let in_made : Has made (s.statement) = map_has (λ (x : SignedStatement). x.statement) ss s its in
        let by = made_cases config r h log d ended.mute made ((lawful.1).makes h) in
        record {
          own = made_backed front back entry is h d s (inr (has_made_note log d ss s its))
              (signer_made config r h log d made (s.statement) by in_made) (height_made config r h log d made (s.statement) by in_made);
          reports = λ l p lock has_p.
              let told = lock_made config r h log d made l by (subst (Has made) lock in_made) in
              (known h (round_at report_place l.phase) (with_signature p) (told.1.1.0.read p has_p)).own;
        }
    new_backed front back (event.Propose n) (reply.Proposed (Ok v)) is follows lawful known h c s has =
        absurd (no_read (nat_eq n h) v c s has)
    new_backed front back (event.Retire g) (reply.Retired (Ok f)) is follows lawful known h c s has =
        absurd (none_retired (nat_lt h f) f c s has)
    new_backed front back e a is follows lawful known h c s has = absurd has

    -- all that a history reads is backed
    all_backed : FrontBacked m.entries
    unfolding log_of log_after
    all_backed =
        each_entry meaning config ring r (λ front. (back : List Entry) → m.entries ≡ front ++ back → FrontBacked front)
        (λ back is h c s has. absurd has)
        (λ front e next before lawful known back is h c s has.
        let shorter : m.entries ≡ front ++ (e ∷ back) = is ∙ append_assoc front (e ∷ []) back in
        elim (has_cases (log_of config r h front) _ (Read c s)
        (subst (λ l. Has l (Read c s)) (log_of-snoc meaning config ring r h [] front e) has)) [
          | inl old ↦ known (e ∷ back) shorter h c s old
          | inr new ↦ new_backed front back (e.event) (e.reply) is before lawful (known (e ∷ back) shorter) h c s new
        ]) m.entries (lawful_history r m found) [] (sym (append-nil m.entries))

  -- all that the histories read is backed
  pub reads_backed : (h : ℕ) → ReadsBacked config histories h
  reads_backed h r c s is has =
      let m = some_history (history_of histories r) is in
      all_backed r m.0 m.1 h c s (subst (λ o. Has (log_if config h r o) (Read c s)) m.1 has)

-- histories that are enough, replay and lack nothing are those of one ledger
pub audited_histories_have_ledger : AuditedHistoriesHaveLedger
audited_histories_have_ledger meaning config ring histories count replay sent =
    one_ledger meaning config ring histories (are_correct meaning config ring histories count replay)
    (reads_backed meaning config ring histories replay sent)
