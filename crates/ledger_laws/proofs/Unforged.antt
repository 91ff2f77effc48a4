-- What correct replicas send is backed, so only bytes that a step injects can be forged.
use Rattle.ledger_model.specs.Meanings.{Meanings}
use Rattle.std.proofs.Common.{◌≡◌, ℕ, zero, suc, ◌+◌, ◌<◌, Bool, true, false, ◌&&◌, cond, ◌⊎◌, inl, inr, List, [], ◌∷◌, ◌++◌, length, take}
use Rattle.std.proofs.Common.{refl, sym, ap, subst, ◌∙◌, append_assoc, arith}
use Rattle.std.specs.Prelude.{nat_eq, nat_lt, Option, Some, None, Result, Ok, Err, slice_get}
use Rattle.std.specs.List.{filter_map}
use Rattle.std.proofs.lemmas.List.{append-nil, length-map, length-take}
use Rattle.std.proofs.lemmas.Option.{slice_get_within, same_Some}
use Rattle.std.proofs.lemmas.Bool.{cases_Bool, and_parts, eq-eqb}
use Rattle.ledger_model.specs.declared.config.Config.{Config}
use Rattle.ledger_model.specs.declared.event.Event.{Event}
use Rattle.ledger_model.specs.declared.event.Event.TheVariants as event
use Rattle.ledger_model.specs.declared.reply.Reply.{Reply}
use Rattle.ledger_model.specs.declared.reply.Reply.TheVariants as reply
use Rattle.ledger_model.specs.declared.reply.RoundEnded.{RoundEnded}
use Rattle.ledger_model.specs.declared.reply.Sent.{Sent}
use Rattle.ledger_model.specs.declared.history.Entry.{Entry}
use Rattle.ledger_model.specs.declared.history.History.{History}
use Rattle.ledger_model.specs.declared.statement.SignedStatement.{SignedStatement}
use Rattle.ledger_model.specs.declared.world.WorldStep.{WorldStep}
use Rattle.ledger_model.specs.declared.world.WorldStep.TheVariants as step
use Rattle.ledger_model.specs.declared.world.WorldRefusal.{WorldRefusal}
use Rattle.ledger_model.specs.Values.{Value, same_value}
use Rattle.ledger_model.specs.Rounds.{place_of, round_at, lock_place, release_place}
use Rattle.ledger_model.specs.Notes.{Note, Proposed, Round, OwnStatement, Read, Retired, Has, clock_of, is_lock, is_open, reads_in}
use Rattle.ledger_model.specs.Locks.{phase_taken, held_values}
use Rattle.ledger_model.specs.Logs.{height_of, statements_sent, statements_made, own_ack, log_after, log_of}
use Rattle.ledger_model.specs.Reading.{reading}
use Rattle.ledger_model.specs.Rules.{Ring}
use Rattle.ledger_model.specs.Lawful.{Lawful, first_some, lock_read, held_locks, locks_sent_on}
use Rattle.ledger_model.specs.Groups.{is_correct, log_in, BackedWhole, ReadsBacked}
use Rattle.ledger_model.specs.Worlds.{World, entries_in, frames_in, frames_sent, asks, passes, event_of, world_at, IsUnforged, NoForgery}
use Rattle.ledger_model.specs.Timelines.{Added, entries_at, histories_at, AcceptsUnforged, RunsFrom, UnforgedFrom}
use Rattle.ledger_model.proofs.Lists.{has_cases, has_left, has_map, has_filter, has_filter_map, flat_map_has, has_flat_map, filter_map_has}
use Rattle.ledger_model.proofs.LockSafety.{first_has}
use Rattle.ledger_laws.specs.Vacuity.{NoInjectedForgery, OnlyInjectionsForge, SilentRunsForgeNothing, SilentRunsRefine}
use Rattle.ledger_laws.proofs.Backing.{same_correct, log_at, entries_at-append, whole_later, made_whole, backed_step}
use Rattle.ledger_laws.proofs.WorldRuns.{replicas_of, world_of, entries_told, frame_to, IsCaused, AreCaused, told, next_at, entry_place}
use Rattle.ledger_laws.proofs.WorldRuns.{runs_refine}

-- ---- lists

get_has : {X : Type 0} (xs : List X) (i : ℕ) (x : X) → slice_get xs i ≡ Some x → Has xs x
get_has [] i x at = cc
get_has (y ∷ ys) zero x at = inl cc
get_has (y ∷ ys) (suc i) x at = inr (get_has ys i x at)

-- ---- a lock that is sent on at place 4 was read

kept_if : (b : Bool) (u s : SignedStatement) → cond b (Some u) None ≡ Some s → u ≡ s
kept_if true u s is = cc
kept_if false u s is = cc

lock_was_read : (v : Value) (c : ℕ) (n : Note) (s : SignedStatement) → lock_read v c n ≡ Some s → (d : ℕ) × (n ≡ Read d s)
lock_was_read v c (Read d u) s is = (d, ap (Read d) (kept_if (reads_in c (is_lock (λ l. same_value v l.value)) (Read d u)) u s is))
lock_was_read v c (Proposed w) s is = cc
lock_was_read v c (Round d) s is = cc
lock_was_read v c (OwnStatement d u) s is = cc
lock_was_read v c (Retired f) s is = cc

held_was_read : (log : List Note) (s : SignedStatement) → Has (held_locks log) s → (d : ℕ) × Has log (Read d s)
unfolding held_locks
held_was_read log s has =
    let by_value = filter_map_has (λ v. first_some (filter_map (lock_read v (round_at lock_place (phase_taken log v))) log))
    (held_values log) s has in
    let v = by_value.0 in
    let by_note = filter_map_has (lock_read v (round_at lock_place (phase_taken log v))) log s
    (first_has (filter_map (lock_read v (round_at lock_place (phase_taken log v))) log) s (by_value.1.1)) in
    let read = lock_was_read v (round_at lock_place (phase_taken log v)) (by_note.0) s (by_note.1.1) in
    (read.0, subst (Has log) (read.1) (by_note.1.0))

-- what is sent on at place 4 is held
sent_held : (log : List Note) (s : SignedStatement) → Has (locks_sent_on log) s → Has (held_locks log) s
sent_held log s has = where_open (is_open log) (held_locks log) has
  where
    where_open : (b : Bool) (ss : List SignedStatement) → Has (cond b ss []) s → Has ss s
    where_open true ss has = has
    where_open false ss has = absurd has

-- ---- what a round end sends is among the statements of its height

sent_statement : (ended : RoundEnded) (bytes : List ℕ) (s : SignedStatement) → Has (frames_in (reply.RoundEnded (Ok ended))) bytes
    → reading bytes ≡ Some s → Has (statements_sent (height_of s.statement) ended) s
unfolding statements_sent
sent_statement ended bytes s has spelled =
    let framed = has_map (λ (f : Sent). f.frame) ended.frames bytes has in
    has_filter (λ (x : SignedStatement). nat_eq (height_of x.statement) (height_of s.statement))
    (filter_map (λ (f : Sent). reading f.frame) ended.frames) s
    (has_filter_map (λ (f : Sent). reading f.frame) ended.frames (framed.0) s (framed.1.0) (ap reading (framed.1.1) ∙ spelled))
    (eq-eqb (height_of s.statement) (height_of s.statement) refl)

pub sent_made : (config : Config) (id h : ℕ) (log : List Note) (c : ℕ) (ended : RoundEnded) (s : SignedStatement)
    → nat_eq (place_of c) release_place ≡ false → Has (statements_sent h ended) s → Has (statements_made config id h log c ended) s
unfolding statements_made
sent_made config id h log c ended s not_4 has = rw not_4 (has_left (statements_sent h ended) (own_ack config id h log c ended.mute) s has)

-- the frames of one entry more
sent_cases : (xs : List Entry) (e : Entry) (bytes : List ℕ) → Has (frames_sent (xs ++ e ∷ [])) bytes
    → Has (frames_sent xs) bytes ⊎ Has (frames_in e.reply) bytes
unfolding frames_sent
sent_cases xs e bytes has =
    let by = flat_map_has (λ (x : Entry). frames_in x.reply) (xs ++ e ∷ []) bytes has in
    elim (has_cases xs (e ∷ []) (by.0) (by.1.0)) [
      | inl old ↦ inl (has_flat_map (λ (x : Entry). frames_in x.reply) xs (by.0) bytes old (by.1.1))
      | inr (inl same) ↦ inr (subst (λ (x : Entry). Has (frames_in x.reply) bytes) (sym same) (by.1.1))
      | inr (inr none) ↦ absurd none
    ]

-- ---- what a step delivers

-- a correct replica sent the frame
record SenderOf (w : World) (bytes : List ℕ) : Type 0 where
  from : ℕ
  is : is_correct w.histories from ≡ true
  has : Has (frames_sent (entries_in w from)) bytes

abbrev asked_in : Result (ℕ × Event) WorldRefusal → ℕ × Event → ℕ × Event
asked_in (Ok p) other = p
asked_in (Err f) other = other

-- a step that names one replica is its own event there
pub asks_only : (config : Config) (w : World) (x r : ℕ) (d e : Event) → asks config w x d ≡ Ok (r, e) → (x ≡ r) × (d ≡ e)
asks_only config w x r d e ok =
    elim (cases_Bool (nat_lt x config.replicas)) [
      | inr far ↦ absurd (let no = simp far at ok in cc)
      | inl near ↦ elim (cases_Bool (is_correct w.histories x)) [
        | inl is ↦ (let same : (x, d) ≡ (r, e) =
            ap (λ o. asked_in o (x, d)) (simp (near, is) at ok) in (ap (λ (p : ℕ × Event). p.0) same, ap (λ (p : ℕ × Event). p.1) same))
        | inr liar ↦ absurd (let no = simp (near, liar) at ok in cc)
      ]
    ]

frame_given : (to r : ℕ) (o : Option (List ℕ)) (bytes : List ℕ) → frame_to to o ≡ Ok (r, event.Deliver bytes) → o ≡ Some bytes
frame_given to r None bytes given = cc
frame_given to r (Some xs) bytes given = let same : event.Deliver xs ≡ event.Deliver bytes =
    ap (λ o. (asked_in o (to, event.Deliver xs)).1) given in cc

passes_sent : (config : Config) (w : World) (from index to r : ℕ) (bytes : List ℕ)
    → passes config w from index to ≡ Ok (r, event.Deliver bytes) → SenderOf w bytes
passes_sent config w from index to r bytes ok =
    elim (cases_Bool (nat_lt from config.replicas && nat_lt to config.replicas)) [
      | inr far ↦ absurd (let no = simp far at ok in cc)
      | inl near ↦ elim (cases_Bool (is_correct w.histories from && is_correct w.histories to)) [
        | inr liar ↦ absurd (let no = simp (near, liar) at ok in cc)
        | inl are ↦ record {
          from = from;
          is = (and_parts (is_correct w.histories from) (is_correct w.histories to) are).0;
          has = get_has (frames_sent (entries_in w from)) index bytes
              (frame_given to r (slice_get (frames_sent (entries_in w from)) index) bytes (simp (near, are) at ok));
        }
      ]
    ]

inject_is : (x r : ℕ) (xs bytes : List ℕ) → x ≡ r → event.Deliver xs ≡ event.Deliver bytes → step.Inject x xs ≡ step.Inject r bytes
inject_is x r xs bytes at same = cc

-- the bytes that a step delivers were sent by a correct replica, or the step injects them
delivers : (config : Config) (w : World) (s : WorldStep) (r : ℕ) (bytes : List ℕ) → event_of config w s ≡ Ok (r, event.Deliver bytes)
    → SenderOf w bytes ⊎ (s ≡ step.Inject r bytes)
unfolding event_of
delivers config w (step.Submit x tx) r bytes ok =
    absurd (let e = (asks_only config w x r (event.Submit tx) (event.Deliver bytes) ok).1 in cc)
delivers config w (step.Propose x h) r bytes ok =
    absurd (let e = (asks_only config w x r (event.Propose h) (event.Deliver bytes) ok).1 in cc)
delivers config w (step.RoundEnd x) r bytes ok = absurd (let e = (asks_only config w x r event.RoundEnd (event.Deliver bytes) ok).1 in cc)
delivers config w (step.Execute x) r bytes ok = absurd (let e = (asks_only config w x r event.Execute (event.Deliver bytes) ok).1 in cc)
delivers config w (step.Query x key h) r bytes ok =
    absurd (let e = (asks_only config w x r (event.Query key h) (event.Deliver bytes) ok).1 in cc)
delivers config w (step.Retire x f) r bytes ok =
    absurd (let e = (asks_only config w x r (event.Retire f) (event.Deliver bytes) ok).1 in cc)
delivers config w (step.Pass from index to) r bytes ok = inl (passes_sent config w from index to r bytes ok)
delivers config w (step.Inject x xs) r bytes ok = let e =
    asks_only config w x r (event.Deliver xs) (event.Deliver bytes) ok in inr (inject_is x r xs bytes (e.0) (e.1))

-- a statement that is backed whole isn't forged
whole_unforged : (config : Config) (ring : Ring) (histories : List History) (s : SignedStatement)
    → BackedWhole config histories s.statement → IsUnforged config ring histories s
whole_unforged config ring histories s whole = record {
  own = λ signed. whole.own;
  reports = λ l p lock has signed. whole.reports l p lock has;
}

module _ (meaning : Meanings) (config : Config) (ring : Ring) (correct : List ℕ) where
  -- what correct replicas read and what they sent is backed
  record BackedTraffic (front : List Added) : Type 0 where
    reads : (h : ℕ) → ReadsBacked config (histories_at correct front) h
    sent : (r : ℕ) (bytes : List ℕ) (s : SignedStatement) → is_correct (histories_at correct front) r ≡ true
        → Has (frames_sent (entries_at front r)) bytes → reading bytes ≡ Some s
        → BackedWhole config (histories_at correct front) s.statement

  at_first : BackedTraffic []
  unfolding log_of log_after frames_sent
  at_first = record {
    reads = λ h r c s is has. absurd (subst (λ l. Has l (Read c s)) (log_at meaning config ring correct [] h r is) has);
    sent = λ r bytes s is has spelled. absurd has;
  }

  -- the frames of a new entry are backed after it
  new_sent : (front : List Added) (a : Added) → ((h : ℕ) → ReadsBacked config (histories_at correct front) h)
      → is_correct (histories_at correct front) a.replica ≡ true
      → (e : Event) (r : Reply) → e ≡ a.entry.event → r ≡ a.entry.reply
      → Lawful meaning config ring a.replica (entries_at front a.replica) e r
      → (bytes : List ℕ) (s : SignedStatement) → Has (frames_in r) bytes → reading bytes ≡ Some s
      → BackedWhole config (histories_at correct (front ++ a ∷ [])) s.statement
  new_sent front a reads is event.RoundEnd (reply.RoundEnded (Ok ended)) same_e same_r lawful bytes s has spelled =
      let h : ℕ = height_of s.statement in
      let log : List Note = log_of config a.replica (height_of s.statement) (entries_at front a.replica) in
      let sent : Has (statements_sent (height_of s.statement) ended) s = sent_statement ended bytes s has spelled in
      elim (cases_Bool (nat_eq (place_of (clock_of log + 1)) release_place)) [
        | inl at_4 ↦
            let held = held_was_read log s
            (sent_held log s (subst (λ ss. Has ss s) ((lawful.1).sends_on (height_of s.statement) at_4) sent)) in
            let read : Has (log_in config (histories_at correct front) (height_of s.statement) a.replica) (Read (held.0) s) =
            subst (λ l. Has l (Read (held.0) s)) (sym (log_at meaning config ring correct front (height_of s.statement) (a.replica) is))
            (held.1) in
            whole_later meaning config ring correct front a (s.statement) (reads (height_of s.statement) (a.replica) (held.0) s is read)
        | inr not_4 ↦ made_whole meaning config ring correct front a (height_of s.statement)
            (reads (height_of s.statement)) is ended same_e same_r
            (lawful.1) s
            (sent_made config a.replica (height_of s.statement) log (clock_of log + 1) ended s not_4 sent)
      ]
  new_sent front a reads is (event.Submit tx) (reply.RoundEnded (Ok ended)) same_e same_r lawful bytes s has spelled = absurd lawful
  new_sent front a reads is (event.Propose h) (reply.RoundEnded (Ok ended)) same_e same_r lawful bytes s has spelled = absurd lawful
  new_sent front a reads is (event.Deliver xs) (reply.RoundEnded (Ok ended)) same_e same_r lawful bytes s has spelled = absurd lawful
  new_sent front a reads is event.Execute (reply.RoundEnded (Ok ended)) same_e same_r lawful bytes s has spelled = absurd lawful
  new_sent front a reads is (event.Query key h) (reply.RoundEnded (Ok ended)) same_e same_r lawful bytes s has spelled = absurd lawful
  new_sent front a reads is (event.Retire f) (reply.RoundEnded (Ok ended)) same_e same_r lawful bytes s has spelled = absurd lawful
  new_sent front a reads is e (reply.RoundEnded (Err last)) same_e same_r lawful bytes s has spelled = absurd has
  new_sent front a reads is e (reply.Submitted given) same_e same_r lawful bytes s has spelled = absurd has
  new_sent front a reads is e (reply.Proposed given) same_e same_r lawful bytes s has spelled = absurd has
  new_sent front a reads is e (reply.Delivered given) same_e same_r lawful bytes s has spelled = absurd has
  new_sent front a reads is e (reply.Executed given) same_e same_r lawful bytes s has spelled = absurd has
  new_sent front a reads is e (reply.Queried given) same_e same_r lawful bytes s has spelled = absurd has
  new_sent front a reads is e (reply.Retired given) same_e same_r lawful bytes s has spelled = absurd has

  -- what was sent is backed after one entry more
  sent_step : (front : List Added) (a : Added) → BackedTraffic front → is_correct (histories_at correct front) a.replica ≡ true
      → Lawful meaning config ring a.replica (entries_at front a.replica) a.entry.event a.entry.reply
      → (r : ℕ) (bytes : List ℕ) (s : SignedStatement) → is_correct (histories_at correct (front ++ a ∷ [])) r ≡ true
      → Has (frames_sent (entries_at (front ++ a ∷ []) r)) bytes → reading bytes ≡ Some s
      → BackedWhole config (histories_at correct (front ++ a ∷ [])) s.statement
  sent_step front a backed is lawful r bytes s correct_r has spelled =
      let was : is_correct (histories_at correct front) r ≡ true = same_correct meaning config ring correct front (front ++ a ∷ []) r
      ∙ correct_r in
      let es = entries_at-append front (a ∷ []) r in
      elim (cases_Bool (nat_eq a.replica r)) [
        | inl here ↦
            let e : entries_at (front ++ a ∷ []) r ≡ entries_at front r ++ a.entry ∷ [] =
            es ∙ ap (λ b. entries_at front r ++ (cond b (a.entry ∷ []) [] ++ [])) here in
            elim (sent_cases (entries_at front r) (a.entry) bytes (subst (λ xs. Has (frames_sent xs) bytes) e has)) [
              | inl old ↦ whole_later meaning config ring correct front a (s.statement) (backed.sent r bytes s was old spelled)
              | inr new ↦ new_sent front a (backed.reads) is (a.entry.event) (a.entry.reply) refl refl lawful bytes s new spelled
            ]
        | inr other ↦
            let e : entries_at (front ++ a ∷ []) r ≡ entries_at front r ++ [] =
            es ∙ ap (λ b. entries_at front r ++ (cond b (a.entry ∷ []) [] ++ [])) other in
            whole_later meaning config ring correct front a (s.statement)
            (backed.sent r bytes s was (subst (λ xs. Has (frames_sent xs) bytes) (e ∙ append-nil (entries_at front r)) has) spelled)
      ]

  more_backed : (front : List Added) (a : Added) → BackedTraffic front → is_correct (histories_at correct front) a.replica ≡ true
      → Lawful meaning config ring a.replica (entries_at front a.replica) a.entry.event a.entry.reply
      → AcceptsUnforged config ring (histories_at correct front) a.entry.event a.entry.reply → BackedTraffic (front ++ a ∷ [])
  more_backed front a backed is lawful unforged = record {
    reads = backed_step meaning config ring correct front a (backed.reads) is lawful unforged;
    sent = sent_step front a backed is lawful;
  }

  module _ (steps : List WorldStep) where
    -- what an entry delivers was sent by a correct replica, or some step injects it
    source : (front : List Added) (a : Added) → IsCaused meaning config ring correct steps front a → (bytes : List ℕ)
        → a.entry.event ≡ event.Deliver bytes
        → SenderOf (world_of correct front) bytes ⊎ Has steps (step.Inject a.replica bytes)
    source front a caused bytes same =
        elim (delivers config (world_of correct front) (caused.0) (a.replica) bytes (caused.1.1 ∙ ap (λ e. Ok (a.replica, e)) same)) [
          | inl by ↦ inl by
          | inr injects ↦ inr (subst (Has steps) injects (caused.1.0))
        ]

    -- what an entry accepts is unforged: it was sent, or it is no forgery that a step injects
    accepts_unforged : (front more : List Added) (a : Added) → BackedTraffic front
        → is_correct (histories_at correct front) a.replica ≡ true → IsCaused meaning config ring correct steps front a
        → NoInjectedForgery config ring steps (world_of correct (front ++ a ∷ more))
        → (e : Event) (r : Reply) → a.entry ≡ record { event = e; reply = r } → AcceptsUnforged config ring (histories_at correct front) e r
    accepts_unforged front more a backed is caused none (event.Deliver bytes) (reply.Delivered (Ok u)) same = λ s spelled.
        elim (source front a caused bytes (ap (λ (x : Entry). x.event) same)) [
          | inl by ↦
              let has : Has (frames_sent (entries_at front by.from)) bytes =
              subst (λ es. Has (frames_sent es) bytes) (entries_told correct front (by.from) (by.is)) (by.has) in
              whole_unforged config ring (histories_at correct front) s (backed.sent (by.from) bytes s (by.is) has spelled)
          | inr injects ↦
              let at = entry_place meaning config ring correct front more a is in
              subst (λ (w : World). IsUnforged config ring w.histories s) at.then
              (none (length front) a.replica bytes u s injects at.order (at.entry ∙ ap Some same) spelled)
        ]
    accepts_unforged front more a backed is caused none e r same = tt

    unforged : (front more : List Added) → BackedTraffic front → RunsFrom meaning config ring correct front more
        → AreCaused meaning config ring correct steps front more → NoInjectedForgery config ring steps (world_of correct (front ++ more))
        → UnforgedFrom config ring correct front more
    unfolding RunsFrom UnforgedFrom AreCaused
    unforged front [] backed runs caused none = tt
    unforged front (a ∷ more) backed runs caused none =
        let first = accepts_unforged front more a backed (runs.0) (caused.0) none (a.entry.event) (a.entry.reply) refl in (
          first,
          unforged (front ++ a ∷ []) more (more_backed front a backed (runs.0) (runs.1) first) (runs.2) (caused.1)
              (subst (λ t. NoInjectedForgery config ring steps (world_of correct t)) (sym (append_assoc front (a ∷ []) more)) none),
        )

  -- an entry at a correct replica, which accepts nothing that is forged
  record UnforgedEntry (front : List Added) (a : Added) : Type 0 where
    is : is_correct (histories_at correct front) a.replica ≡ true
    unforged : AcceptsUnforged config ring (histories_at correct front) a.entry.event a.entry.reply

  unforged_entry : (front mid : List Added) (a : Added) (rest : List Added) → RunsFrom meaning config ring correct front (mid ++ a ∷ rest)
      → UnforgedFrom config ring correct front (mid ++ a ∷ rest) → UnforgedEntry (front ++ mid) a
  unfolding RunsFrom UnforgedFrom
  unforged_entry front [] a rest runs unforged =
      subst (λ t. UnforgedEntry t a) (sym (append-nil front)) (record { is = runs.0; unforged = unforged.0 })
  unforged_entry front (x ∷ mid) a rest runs unforged =
      subst (λ t. UnforgedEntry t a) (append_assoc front (x ∷ []) mid) (unforged_entry (front ++ x ∷ []) mid a rest (runs.2) (unforged.1))

  -- what was accepted as the n-th entry was unforged then
  abbrev UnforgedAt : List Added → ℕ → Type 0
  UnforgedAt timeline n =
      (r : ℕ) (bytes : List ℕ) (u : Unit {0}) (s : SignedStatement)
      → slice_get (replicas_of timeline) n ≡ Some r
      → slice_get (entries_in (world_of correct timeline) r) (length (entries_in (world_at (world_of correct timeline) n) r))
      ≡ Some (record { event = event.Deliver bytes; reply = reply.Delivered (Ok u) })
      → reading bytes ≡ Some s
      → IsUnforged config ring (world_at (world_of correct timeline) n).histories s

  unforged_at : (mid : List Added) (a : Added) (rest : List Added) → UnforgedEntry mid a → UnforgedAt (mid ++ a ∷ rest) (length mid)
  unforged_at mid a rest at = λ r bytes u s order entry spelled.
      let w : World = world_of correct (mid ++ a ∷ rest) in
      let there = entry_place meaning config ring correct mid rest a (at.is) in
      let its : r ≡ a.replica = same_Some r (a.replica) (sym order ∙ there.order) in
      let given : Entry = record { event = event.Deliver bytes; reply = reply.Delivered (Ok u) } in
      let same : a.entry ≡ given =
      same_Some (a.entry) given (sym there.entry
      ∙ subst (λ x. slice_get (entries_in w x) (length (entries_in (world_at w (length mid)) x)) ≡ Some given) its entry) in
      let fine : AcceptsUnforged config ring (histories_at correct mid) given.event given.reply =
      subst (λ (x : Entry). AcceptsUnforged config ring (histories_at correct mid) x.event x.reply) same (at.unforged) in
      subst (λ (v : World). IsUnforged config ring v.histories s) (sym there.then) (fine s spelled)

  -- the world of an unforged timeline has no forgery
  no_forgery : (timeline : List Added) → RunsFrom meaning config ring correct [] timeline → UnforgedFrom config ring correct [] timeline
      → NoForgery config ring (world_of correct timeline)
  no_forgery timeline runs unforged = λ n r bytes u s order entry spelled.
      let lt : n < length timeline =
      omega (arith, slice_get_within (replicas_of timeline) n r order, length-map timeline (λ (y : Added). y.replica)) in
      let e = next_at n timeline lt in
      let size : length (take n timeline) ≡ n = omega (arith, lt, length-take n timeline) in
      let at : UnforgedEntry (take n timeline) (e.here) =
      unforged_entry [] (take n timeline) (e.here) (e.rest) (subst (RunsFrom meaning config ring correct []) (e.is) runs)
      (subst (UnforgedFrom config ring correct []) (e.is) unforged) in
      let here : UnforgedAt timeline n =
      subst (λ t. UnforgedAt t n) (sym (e.is))
      (subst (UnforgedAt (take n timeline ++ e.here ∷ e.rest)) size (unforged_at (take n timeline) (e.here) (e.rest) at)) in
      here r bytes u s order entry spelled

pub only_injections_forge : OnlyInjectionsForge
only_injections_forge meaning config ring correct steps answers w runs none =
    let t = told meaning config ring correct steps answers w runs in
    let unforged_all = unforged meaning config ring correct steps [] (t.more) (at_first meaning config ring correct) (t.runs) (t.caused)
    (subst (NoInjectedForgery config ring steps) (t.is) none) in
    subst (NoForgery config ring) (sym (t.is)) (no_forgery meaning config ring correct (t.more) (t.runs) unforged_all)

pub silent_runs_forge_nothing : SilentRunsForgeNothing
silent_runs_forge_nothing meaning config ring correct steps answers w runs silent =
    only_injections_forge meaning config ring correct steps answers w runs
    (λ n r bytes u s injects order entry spelled. absurd (silent r bytes injects))

pub silent_runs_refine : SilentRunsRefine
silent_runs_refine meaning config ring correct steps answers w replicas runs silent =
    runs_refine meaning config ring correct steps answers w replicas runs
    (silent_runs_forge_nothing meaning config ring correct steps answers w runs silent)
