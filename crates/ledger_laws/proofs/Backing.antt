-- If nothing was forged, every statement that correct replicas read is backed.
use Rattle.ledger_model.specs.Meanings.{Meanings}
use Rattle.std.proofs.Common.{◌≡◌, ℕ, ◌+◌, ◌≤◌, Bool, true, false, not, ◌&&◌, cond, inl, inr, List, [], ◌∷◌, ◌++◌, map, refl, sym, ap}
use Rattle.std.proofs.Common.{subst, ◌∙◌, append_assoc}
use Rattle.std.specs.Prelude.{nat_eq, nat_lt, Option, Some, None, Ok, is_some}
use Rattle.std.specs.List.{list_any, list_all, flat_map}
use Rattle.std.proofs.lemmas.List.{append-nil}
use Rattle.std.proofs.lemmas.Bool.{and_parts, cases_Bool, eqb-true, eq-eqb, not-false}
use Rattle.std.proofs.lemmas.Option.{same_Some}
use Rattle.ledger_model.specs.declared.config.Config.{Config}
use Rattle.ledger_model.specs.declared.event.Event.{Event}
use Rattle.ledger_model.specs.declared.event.Event.TheVariants as event
use Rattle.ledger_model.specs.declared.reply.Reply.{Reply}
use Rattle.ledger_model.specs.declared.reply.Reply.TheVariants as reply
use Rattle.ledger_model.specs.declared.reply.Ignored.TheVariants as cause
use Rattle.ledger_model.specs.declared.history.History.{History}
use Rattle.ledger_model.specs.declared.statement.Lock.{Lock}
use Rattle.ledger_model.specs.declared.statement.SignedReport.{SignedReport}
use Rattle.ledger_model.specs.declared.statement.SignedStatement.{SignedStatement}
use Rattle.ledger_model.specs.declared.statement.Statement.{Statement}
use Rattle.ledger_model.specs.declared.statement.Statement.TheVariants as statement
use Rattle.ledger_model.specs.Values.{Value}
use Rattle.ledger_model.specs.Rounds.{phase_of, round_at, report_place}
use Rattle.ledger_model.specs.Notes.{Note, Proposed, OwnStatement, Read, Retired, Has, clock_of, signer_of, is_lock}
use Rattle.ledger_model.specs.Locks.{value_taken}
use Rattle.ledger_model.specs.Validity.{is_quorate, is_supporting}
use Rattle.ledger_model.specs.Logs.{height_of, if_some, made_notes, statements_made, notes_of, log_after, log_of}
use Rattle.ledger_model.proofs.FrameReading.{reading-reads}
use Rattle.ledger_model.specs.Reading.{reading_in}
use Rattle.ledger_model.specs.Rules.{Ring, report_of, ack_of, acks_of, causes, answer_to, is_signed, is_proved, with_signature}
use Rattle.ledger_model.specs.declared.reply.RoundEnded.{RoundEnded}
use Rattle.ledger_model.specs.Lawful.{Lawful, LawfulRoundEnd, answer, FollowsFrom, Follows}
use Rattle.ledger_model.specs.Groups.{history_of, is_correct, log_if, log_in, Backed, BackedWhole, AreCorrect, ReadsBacked}
use Rattle.ledger_model.specs.Timelines.{Added, entries_at, histories_at, AcceptsUnforged, RunsFrom, UnforgedFrom, AreReplicas}
use Rattle.ledger_model.proofs.Lists.{all_has, has_cases, has_left, has_right}
use Rattle.ledger_model.proofs.Goodness.{Made_by, Of_nothing, Of_ack, Of_report, Of_lock, made_cases, lock_made, height_made, is_only}
use Rattle.ledger_model.proofs.Goodness.{has_none}
use Rattle.ledger_model.proofs.Steps.{none_fits, made_note, note_read, map_has, log_of-snoc, follows_snoc}
use Rattle.ledger_model.specs.Commits.{commits_of}
use Rattle.ledger_model.specs.Worlds.{Begins}
use Rattle.ledger_model.specs.Timelines.{RefinesLedger}
use Rattle.ledger_model.proofs.Staying.{count_same, commits_grow}
use Rattle.ledger_laws.proofs.Ledgers.{one_ledger, begins_trans}

-- the history of a replica in a timeline
abbrev pub its_history : List Added → ℕ → History
its_history timeline r = record { replica = r; entries = entries_at timeline r }

pub history_at : (correct : List ℕ) (timeline : List Added) (r : ℕ)
    → history_of (histories_at correct timeline) r ≡ cond (list_any (λ x. nat_eq x r) correct) (Some (its_history timeline r)) None
history_at [] timeline r = refl
history_at (x ∷ xs) timeline r =
    elim (cases_Bool (nat_eq x r)) [
      | inl same ↦ let is : x ≡ r = eqb-true x r same in simp same (ap (λ y. Some (its_history timeline y)) is)
      | inr other ↦ simp other (history_at xs timeline r)
    ]

pub correct_at : (correct : List ℕ) (timeline : List Added) (r : ℕ)
    → is_correct (histories_at correct timeline) r ≡ list_any (λ x. nat_eq x r) correct
correct_at correct timeline r =
    ap is_some (history_at correct timeline r) ∙ both (list_any (λ x. nat_eq x r) correct)
  where
    both : (b : Bool) → is_some (cond b (Some (its_history timeline r)) None) ≡ b
    both true = refl
    both false = refl

pub history_is : (correct : List ℕ) (timeline : List Added) (r : ℕ) → is_correct (histories_at correct timeline) r ≡ true
    → history_of (histories_at correct timeline) r ≡ Some (its_history timeline r)
history_is correct timeline r is =
    let there : list_any (λ x. nat_eq x r) correct ≡ true = sym (correct_at correct timeline r) ∙ is in
    history_at correct timeline r ∙ ap (λ b. cond b (Some (its_history timeline r)) None) there

pub entries_at-append : (xs ys : List Added) (r : ℕ) → entries_at (xs ++ ys) r ≡ entries_at xs r ++ entries_at ys r
entries_at-append [] ys r = refl
entries_at-append (x ∷ xs) ys r =
    ap (λ es. cond (nat_eq x.replica r) (x.entry ∷ []) [] ++ es) (entries_at-append xs ys r)
    ∙ sym (append_assoc (cond (nat_eq x.replica r) (x.entry ∷ []) []) (entries_at xs r) (entries_at ys r))

-- what is accepted is signed, and so is each report in its proof
pub accepted_signed : (config : Config) (ring : Ring) (log : List Note) (s : SignedStatement) (u : Unit {0})
    → answer_to config ring log s ≡ Ok u → is_signed ring s ≡ true
unfolding causes
accepted_signed config ring log s u ok =
    not-false (is_signed ring s) (none_fits (causes config ring log s) u (not (is_signed ring s)) cause.BadSignature ok refl)

pub proof_signed : (config : Config) (ring : Ring) (log : List Note) (s : SignedStatement) (u : Unit {0})
    → answer_to config ring log s ≡ Ok u
    → (l : Lock) (p : SignedReport) → s.statement ≡ statement.Lock l → Has l.proof p → is_signed ring (with_signature p) ≡ true
unfolding causes
proof_signed config ring log s u ok l p is has =
    let c8 = none_fits (causes config ring log s) u (is_lock (λ m. not (is_proved config ring m)) s.statement) cause.BadProof ok refl in
    let proved : is_proved config ring l ≡ true =
    not-false (is_proved config ring l) (subst (λ x. is_lock (λ m. not (is_proved config ring m)) x ≡ false) is c8) in
    let parts = and_parts (is_quorate config l && list_all (λ x. is_signed ring (with_signature x)) l.proof) (is_supporting l) proved in
    let quorate = and_parts (is_quorate config l) (list_all (λ x. is_signed ring (with_signature x)) l.proof) (parts.0) in
    all_has (λ x. is_signed ring (with_signature x)) l.proof p (quorate.1) has

pub has_made_note : (log : List Note) (c : ℕ) (ss : List SignedStatement) (s : SignedStatement) → Has ss s
    → Has (flat_map (made_notes log c) ss) (OwnStatement c s.statement)
has_made_note log c [] s has = absurd has
has_made_note log c (x ∷ xs) s (inl here) =
    has_left (made_notes log c x) (flat_map (made_notes log c) xs) (OwnStatement c s.statement)
    (inl (ap (λ (y : SignedStatement). OwnStatement c y.statement) here))
has_made_note log c (x ∷ xs) s (inr later) =
    has_right (made_notes log c x) (flat_map (made_notes log c) xs) (OwnStatement c s.statement) (has_made_note log c xs s later)

acks_signer : (config : Config) (id h k : ℕ) (o : Option Value) (made : List Statement) (u : Statement) → made ≡ acks_of config id h k o
    → Has made u
    → signer_of u ≡ id
acks_signer config id h k None made u e has = absurd (has_none made u e has)
acks_signer config id h k (Some v) made u e has =
    sym (ap signer_of (is_only made (statement.Ack (ack_of config id h k v)) u e has))

pub signer_made : (config : Config) (id h : ℕ) (front : List Note) (d : ℕ) (made : List Statement) (u : Statement)
    → Made_by config id h front d made → Has made u → signer_of u ≡ id
unfolding report_of
signer_made config id h front d made u (Of_nothing e) has = absurd (has_none made u e has)
signer_made config id h front d made u (Of_ack place e) has = acks_signer config id h (phase_of d) (value_taken front (phase_of d)) made u e
    has
signer_made config id h front d made u (Of_lock lock place owner e own) has =
    sym (ap signer_of (is_only made (statement.Lock lock) u e has)) ∙ own.own
signer_made config id h front d made u (Of_report own began place e) has =
    sym (ap signer_of (is_only made (statement.Report (report_of config id h front (phase_of d) own)) u e has))

-- what the notes of a delivered frame read
read_only : (b : Bool) (c d : ℕ) (s u : SignedStatement) → Has (cond b (Read c s ∷ []) []) (Read d u) → (b ≡ true) × (s ≡ u)
read_only true c d s u (inl e) = (refl, cc)
read_only true c d s u (inr none) = absurd none
read_only false c d s u none = absurd none

pub delivered_only : (o : Option SignedStatement) (c h d : ℕ) (u : SignedStatement)
    → Has (if_some o (λ s. cond (nat_eq (height_of s.statement) h) (Read c s ∷ []) [])) (Read d u)
    → (o ≡ Some u) × (height_of u.statement ≡ h)
delivered_only None c h d u has = absurd has
delivered_only (Some s) c h d u has =
    let r = read_only (nat_eq (height_of s.statement) h) c d s u has in
    (ap Some (r.1), sym (ap (λ (x : SignedStatement). height_of x.statement) (r.1)) ∙ eqb-true (height_of s.statement) h (r.0))

-- the notes of a proposal and of a retired height read nothing
pub no_read : (b : Bool) (v : Value) (d : ℕ) (s : SignedStatement) → Has (cond b (Proposed v ∷ []) []) (Read d s) → ⊥
no_read true v d s (inl e) = cc
no_read true v d s (inr none) = none
no_read false v d s none = none

pub none_retired : (b : Bool) (f d : ℕ) (s : SignedStatement) → Has (cond b (Retired f ∷ []) []) (Read d s) → ⊥
none_retired true f d s (inl e) = cc
none_retired true f d s (inr none) = none
none_retired false f d s none = none

module _ (meaning : Meanings) (config : Config) (ring : Ring) (correct : List ℕ) where
  pub log_at : (timeline : List Added) (h r : ℕ) → is_correct (histories_at correct timeline) r ≡ true
      → log_in config (histories_at correct timeline) h r ≡ log_of config r h (entries_at timeline r)
  log_at timeline h r is = ap (log_if config h r) (history_is correct timeline r is)

  -- who is correct does not depend on the moment
  pub same_correct : (xs ys : List Added) (r : ℕ) → is_correct (histories_at correct xs) r ≡ is_correct (histories_at correct ys) r
  same_correct xs ys r = correct_at correct xs r ∙ sym (correct_at correct ys r)

  -- what an entry adds to its replica's log, and to no other
  pub log_more : (front : List Added) (a : Added) (h r : ℕ) → is_correct (histories_at correct front) r ≡ true
      → log_in config (histories_at correct (front ++ a ∷ [])) h r
      ≡ log_in config (histories_at correct front) h r
      ++ cond (nat_eq a.replica r) (notes_of config r h (log_in config (histories_at correct front) h r) a.entry.event a.entry.reply) []
  unfolding log_of
  log_more front a h r is =
      let now = log_at (front ++ a ∷ []) h r (same_correct (front ++ a ∷ []) front r ∙ is) in
      let before = log_at front h r is in
      let es = entries_at-append front (a ∷ []) r in
      elim (cases_Bool (nat_eq a.replica r)) [
        | inl here ↦
            let e : entries_at (front ++ a ∷ []) r ≡ entries_at front r ++ a.entry ∷ [] =
            es ∙ ap (λ b. entries_at front r ++ (cond b (a.entry ∷ []) [] ++ [])) here in
            let snoc = log_of-snoc meaning config ring r h [] (entries_at front r) a.entry in
            simp here (now ∙ ap (log_after config r h []) e ∙ snoc
            ∙ sym (ap (λ l. l ++ notes_of config r h l a.entry.event a.entry.reply) before))
        | inr other ↦
            let e : entries_at (front ++ a ∷ []) r ≡ entries_at front r ++ [] =
            es ∙ ap (λ b. entries_at front r ++ (cond b (a.entry ∷ []) [] ++ [])) other in
            simp other (now ∙ ap (log_after config r h []) (e ∙ append-nil (entries_at front r)) ∙ sym before
            ∙ sym (append-nil (log_in config (histories_at correct front) h r)))
      ]

  -- what is backed stays backed
  pub backed_later : (front : List Added) (a : Added) (s : Statement) → Backed config (histories_at correct front) s
      → Backed config (histories_at correct (front ++ a ∷ [])) s
  backed_later front a s b = λ is.
      let was : is_correct (histories_at correct front) (signer_of s) ≡ true = same_correct front (front ++ a ∷ []) (signer_of s) ∙ is in
      let made = b was in (
        made.0,
        subst (λ l. Has l (OwnStatement (made.0) s)) (sym (log_more front a (height_of s) (signer_of s) was))
            (has_left _ _ (OwnStatement (made.0) s) (made.1)),
      )

  pub whole_later : (front : List Added) (a : Added) (s : Statement) → BackedWhole config (histories_at correct front) s
      → BackedWhole config (histories_at correct (front ++ a ∷ [])) s
  whole_later front a s b = record {
    own = backed_later front a s (b.own);
    reports = λ l p is has. backed_later front a (statement.Report p.report) (b.reports l p is has);
  }

  -- what an entry notes is in the log after it
  pub noted : (front : List Added) (a : Added) (h : ℕ) → is_correct (histories_at correct front) a.replica ≡ true → (n : Note)
      → Has (notes_of config a.replica h (log_of config a.replica h (entries_at front a.replica)) a.entry.event a.entry.reply) n
      → Has (log_in config (histories_at correct (front ++ a ∷ [])) h a.replica) n
  noted front a h is n has =
      let here : Has (notes_of config a.replica h (log_in config (histories_at correct front) h a.replica) a.entry.event a.entry.reply) n =
      subst (λ l. Has (notes_of config a.replica h l a.entry.event a.entry.reply) n) (sym (log_at front h (a.replica) is)) has in
      let more : Has (cond (nat_eq a.replica a.replica)
      (notes_of config a.replica h (log_in config (histories_at correct front) h a.replica) a.entry.event a.entry.reply) []) n =
      subst (λ b. Has (cond b (notes_of config a.replica h (log_in config (histories_at correct front) h a.replica) a.entry.event
      a.entry.reply) []) n) (sym (eq-eqb (a.replica) (a.replica) refl)) here in
      subst (λ l. Has l n) (sym (log_more front a h (a.replica) is))
      (has_right (log_in config (histories_at correct front) h a.replica) _ n more)

  -- what is made as a round opens is backed once its entry stands
  pub made_whole : (front : List Added) (a : Added) (h : ℕ) → ReadsBacked config (histories_at correct front) h
      → is_correct (histories_at correct front) a.replica ≡ true
      → (ended : RoundEnded) → event.RoundEnd ≡ a.entry.event → reply.RoundEnded (Ok ended) ≡ a.entry.reply
      → LawfulRoundEnd config a.replica (entries_at front a.replica) ended
      → (s : SignedStatement)
      → Has (statements_made config a.replica h (log_of config a.replica h (entries_at front a.replica))
      (clock_of (log_of config a.replica h (entries_at front a.replica)) + 1) ended) s
      → BackedWhole config (histories_at correct (front ++ a ∷ [])) s.statement
  unfolding notes_of
  made_whole front a h backed is ended same_e same_r lawful s its =
      let log : List Note = log_of config a.replica h (entries_at front a.replica) in
      let ss : List SignedStatement = statements_made config a.replica h log (clock_of log + 1) ended in
      let made : List Statement = map (λ x. x.statement) ss in
      let in_made : Has made (s.statement) = map_has (λ (x : SignedStatement). x.statement) ss s its in
      let by = made_cases config a.replica h log (clock_of log + 1) ended.mute made (lawful.makes h) in
      let of_height : height_of s.statement ≡ h = height_made config a.replica h log (clock_of log + 1) made (s.statement) by in_made in
      let signer : signer_of s.statement ≡ a.replica =
      signer_made config a.replica h log (clock_of log + 1) made (s.statement) by in_made in
      let note : Has (notes_of config a.replica h log event.RoundEnd (reply.RoundEnded (Ok ended)))
      (OwnStatement (clock_of log + 1) s.statement) = inr (has_made_note log (clock_of log + 1) ss s its) in
      let note_a : Has (notes_of config a.replica h log a.entry.event a.entry.reply) (OwnStatement (clock_of log + 1) s.statement) =
      subst (λ r. Has (notes_of config a.replica h log a.entry.event r) (OwnStatement (clock_of log + 1) s.statement)) same_r
      (subst (λ e. Has (notes_of config a.replica h log e (reply.RoundEnded (Ok ended))) (OwnStatement (clock_of log + 1) s.statement))
      same_e note) in
      let there = noted front a h is (OwnStatement (clock_of log + 1) s.statement) note_a in
      record {
        own = λ _. (
          clock_of log + 1,
          subst (λ x. Has (log_in config (histories_at correct (front ++ a ∷ [])) x (signer_of s.statement))
              (OwnStatement (clock_of log + 1) s.statement)) (sym of_height)
              (subst (λ x. Has (log_in config (histories_at correct (front ++ a ∷ [])) h x) (OwnStatement (clock_of log + 1) s.statement))
              (sym signer) there),
        );
        reports = λ l p lock in_proof.
            let told = lock_made config a.replica h log (clock_of log + 1) made l by (subst (Has made) lock in_made) in
            let read = told.1.1.0.read p in_proof in
            let in_log : Has (log_in config (histories_at correct front) h a.replica)
            (Read (round_at report_place l.phase) (with_signature p)) =
            subst (λ x. Has x (Read (round_at report_place l.phase) (with_signature p))) (sym (log_at front h (a.replica) is)) read in
            backed_later front a (statement.Report p.report)
            ((backed (a.replica) (round_at report_place (l.phase)) (with_signature p) is in_log).own);
      }

  -- what an entry reads is backed after it
  pub new_read : (front : List Added) (a : Added) (h : ℕ) → ReadsBacked config (histories_at correct front) h
      → is_correct (histories_at correct front) a.replica ≡ true
      → (e : Event) (r : Reply) → e ≡ a.entry.event → r ≡ a.entry.reply
      → Lawful meaning config ring a.replica (entries_at front a.replica) e r
      → AcceptsUnforged config ring (histories_at correct front) e r
      → (d : ℕ) (s : SignedStatement)
      → Has (notes_of config a.replica h (log_of config a.replica h (entries_at front a.replica)) e r) (Read d s)
      → BackedWhole config (histories_at correct (front ++ a ∷ [])) s.statement
  unfolding notes_of
  new_read front a h backed is (event.Deliver bytes) (reply.Delivered (Ok u)) same_e same_r lawful unforged d s has =
      let told = delivered_only (reading_in config.frames bytes) (clock_of (log_of config a.replica h (entries_at front a.replica))) h d s
      has in
      let ok : answer_to config ring (log_of config a.replica (height_of s.statement) (entries_at front a.replica)) s ≡ Ok u =
      subst (λ o. answer config ring a.replica (entries_at front a.replica) o ≡ Ok u) (told.0) (sym lawful) in
      let fine = unforged s (reading-reads config.frames bytes s told.0).0 in
      whole_later front a (s.statement) (record {
        own = fine.own (accepted_signed config ring (log_of config a.replica (height_of s.statement) (entries_at front a.replica)) s u ok);
        reports = λ l p lock in_proof. fine.reports l p lock in_proof
            (proof_signed config ring (log_of config a.replica (height_of s.statement) (entries_at front a.replica)) s u ok l p lock
            in_proof);
      })
  new_read front a h backed is (event.Propose n) (reply.Proposed (Ok v)) same_e same_r lawful unforged d s has =
      absurd (no_read (nat_eq n h) v d s has)
  new_read front a h backed is event.RoundEnd (reply.RoundEnded (Ok ended)) same_e same_r lawful unforged d s has =
      let log : List Note = log_of config a.replica h (entries_at front a.replica) in
      let ss : List SignedStatement = statements_made config a.replica h log (clock_of log + 1) ended in
      let its : Has ss s = elim has [
        | inl e ↦
            absurd (cc)
        | inr y ↦ (note_read (clock_of log + 1) ss d s (made_note log (clock_of log + 1) ss (Read d s) y)).1
      ] in
      made_whole front a h backed is ended same_e same_r (lawful.1) s its
  new_read front a h backed is (event.Retire g) (reply.Retired (Ok f)) same_e same_r lawful unforged d s has =
      absurd (none_retired (nat_lt h f) f d s has)
  new_read front a h backed is e r same_e same_r lawful unforged d s has = absurd has

  -- all that is read stays backed as the run goes on
  pub backed_step : (front : List Added) (a : Added) → ((h : ℕ) → ReadsBacked config (histories_at correct front) h)
      → is_correct (histories_at correct front) a.replica ≡ true
      → Lawful meaning config ring a.replica (entries_at front a.replica) a.entry.event a.entry.reply
      → AcceptsUnforged config ring (histories_at correct front) a.entry.event a.entry.reply
      → (h : ℕ) → ReadsBacked config (histories_at correct (front ++ a ∷ [])) h
  backed_step front a backed is lawful unforged h r c s correct_r has =
      let was : is_correct (histories_at correct front) r ≡ true = same_correct front (front ++ a ∷ []) r ∙ correct_r in
      let parts : Has (log_in config (histories_at correct front) h r
      ++ cond (nat_eq a.replica r) (notes_of config r h (log_in config (histories_at correct front) h r) a.entry.event a.entry.reply)
      []) (Read c s) =
      subst (λ l. Has l (Read c s)) (log_more front a h r was) has in
      elim (has_cases (log_in config (histories_at correct front) h r) _ (Read c s) parts) [
        | inl old ↦ whole_later front a (s.statement) (backed h r c s was old)
        | inr new ↦ elim (cases_Bool (nat_eq a.replica r)) [
          | inl here ↦
              let same : r ≡ a.replica = sym (eqb-true (a.replica) r here) in
              let notes : Has (notes_of config r h (log_in config (histories_at correct front) h r) a.entry.event a.entry.reply)
              (Read c s) = simp here at new in
              let there : Has (notes_of config r h (log_of config r h (entries_at front r)) a.entry.event a.entry.reply) (Read c s) =
              subst (λ l. Has (notes_of config r h l a.entry.event a.entry.reply) (Read c s)) (log_at front h r was) notes in
              new_read front a h (backed h) is (a.entry.event) (a.entry.reply) refl refl lawful unforged c s
              (subst (λ x. Has (notes_of config x h (log_of config x h (entries_at front x)) a.entry.event a.entry.reply) (Read c s)) same
              there)
          | inr other ↦ absurd (simp other at new)
        ]
      ]

module _ (meaning : Meanings) (config : Config) (ring : Ring) (correct : List ℕ) (replicas : AreReplicas config correct) where
  -- how far a run has come: each correct history is lawful, and what was read is backed
  pub record Reached (front : List Added) : Type 0 where
    pub follows : (r : ℕ) → Follows meaning config ring r (entries_at front r)
    pub backed : (h : ℕ) → ReadsBacked config (histories_at correct front) h

  pub nothing_yet : Reached []
  unfolding Follows FollowsFrom log_of log_after
  nothing_yet = record {
    follows = λ r. tt;
    backed = λ h r c s is has. absurd (subst (λ l. Has l (Read c s)) (log_at meaning config ring correct [] h r is) has);
  }

  pub next : (front : List Added) (a : Added) → Reached front → is_correct (histories_at correct front) a.replica ≡ true
      → Lawful meaning config ring a.replica (entries_at front a.replica) a.entry.event a.entry.reply
      → AcceptsUnforged config ring (histories_at correct front) a.entry.event a.entry.reply → Reached (front ++ a ∷ [])
  unfolding Follows
  next front a reached is lawful unforged = record {
    follows = λ r.
        let es = entries_at-append front (a ∷ []) r in
        elim (cases_Bool (nat_eq a.replica r)) [
          | inl here ↦
              let same : a.replica ≡ r = eqb-true (a.replica) r here in
              let e : entries_at (front ++ a ∷ []) r ≡ entries_at front r ++ a.entry ∷ [] =
              es ∙ ap (λ b. entries_at front r ++ (cond b (a.entry ∷ []) [] ++ [])) here in
              let lawful_r = subst (λ x. Lawful meaning config ring x (entries_at front x) a.entry.event a.entry.reply) same lawful in
              subst (FollowsFrom meaning config ring r []) (sym e)
              (follows_snoc meaning config ring r [] (entries_at front r) (a.entry) (reached.follows r) lawful_r)
          | inr other ↦
              let e : entries_at (front ++ a ∷ []) r ≡ entries_at front r ++ [] =
              es ∙ ap (λ b. entries_at front r ++ (cond b (a.entry ∷ []) [] ++ [])) other in
              subst (FollowsFrom meaning config ring r []) (sym (e ∙ append-nil (entries_at front r))) (reached.follows r)
        ];
    backed = backed_step meaning config ring correct front a (reached.backed) is lawful unforged;
  }

  pub reached : (front more : List Added) → Reached front → RunsFrom meaning config ring correct front more
      → UnforgedFrom config ring correct front more
      → (mid back : List Added) → more ≡ mid ++ back → Reached (front ++ mid)
  unfolding RunsFrom UnforgedFrom
  reached front more r runs unforged [] back is = subst Reached (sym (append-nil front)) r
  reached front [] r runs unforged (a ∷ mid) back is = cc
  reached front (x ∷ more) r runs unforged (a ∷ mid) back is =
      let first : x ≡ a = cc in
      let rest : more ≡ mid ++ back = cc in
      let now = next front x r (runs.0) (runs.1) (unforged.0) in
      subst Reached (ap (λ y. front ++ y ∷ mid) first)
      (subst Reached (append_assoc front (x ∷ []) mid) (reached (front ++ x ∷ []) more now (runs.2) (unforged.1) mid back rest))

  pub are_correct : (front : List Added) → Reached front → AreCorrect meaning config ring (histories_at correct front)
  are_correct front r = record {
    follows = λ x m at.
        let same : its_history front x ≡ m = same_Some (its_history front x) m (sym (history_is correct front x (ap is_some at)) ∙ at) in
        subst (λ (n : History). Follows meaning config ring x n.entries) same (r.follows x);
    below = λ x is. replicas.below x (sym (correct_at correct front x) ∙ is);
    enough = subst (λ n. n ≤ config.faults)
        (sym (count_same (λ x. not (is_correct (histories_at correct front) x)) (λ x. not (list_any (λ y. nat_eq y x) correct))
        (λ x. ap not (correct_at correct front x)) 0 (config.replicas))) (replicas.enough);
  }

  pub refines : (timeline : List Added) → RunsFrom meaning config ring correct [] timeline → UnforgedFrom config ring correct [] timeline
      → RefinesLedger meaning config correct timeline
  refines timeline runs unforged = record {
    is_ledger = λ front back is.
        let r = reached [] timeline nothing_yet runs unforged front back is in
        one_ledger meaning config ring (histories_at correct front) (are_correct front r) (r.backed);
    grows = λ front back a ledger later is ledger_is later_is.
        let r = reached [] timeline nothing_yet runs unforged (front ++ a ∷ []) back (is ∙ sym (append_assoc front (a ∷ []) back)) in
        let from = ledger_is.some in
        let x = from.0 in
        let m = from.1.0 in
        let is_x : is_correct (histories_at correct front) x ≡ true = ap is_some (from.1.1.0) in
        let before : its_history front x ≡ m = same_Some (its_history front x) m (sym (history_is correct front x is_x) ∙ from.1.1.0) in
        let ledger_x : ledger ≡ commits_of config x (entries_at front x) =
        from.1.1.1 ∙ ap (λ (n : History). commits_of config x n.entries) (sym before) in
        let es = entries_at-append front (a ∷ []) x in
        let grow : Begins (commits_of config x (entries_at front x)) (commits_of config x (entries_at (front ++ a ∷ []) x)) =
        subst (λ xs. Begins (commits_of config x (entries_at front x)) (commits_of config x xs)) (sym es)
        (commits_grow meaning config ring x (entries_at front x) (entries_at (a ∷ []) x)
        (subst (Follows meaning config ring x) es (r.follows x))) in
        let there : Begins (commits_of config x (entries_at (front ++ a ∷ []) x)) later =
        later_is.each x (its_history (front ++ a ∷ []) x)
        (history_is correct (front ++ a ∷ []) x (same_correct meaning config ring correct (front ++ a ∷ []) front x ∙ is_x)) in
        subst (λ xs. Begins xs later) (sym ledger_x)
        (begins_trans (commits_of config x (entries_at front x)) (commits_of config x (entries_at (front ++ a ∷ []) x)) later grow
        there);
  }
