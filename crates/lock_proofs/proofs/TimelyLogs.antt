-- The log of a lawful history is timely.
use Rattle.ledger_model.specs.Meanings.{Meanings}
use Rattle.std.proofs.Common.{◌≡◌, ℕ, ◌+◌, Bool, true, false, not, cond, inl, inr, List, [], ◌∷◌, ◌++◌, refl, sym, subst, ◌∙◌, append_assoc}
use Rattle.std.proofs.Common.{arith}
use Rattle.std.specs.Prelude.{map, nat_eq, nat_lt, Option, Some, None, Ok}
use Rattle.std.specs.List.{flat_map}
use Rattle.std.proofs.lemmas.List.{append-nil}
use Rattle.std.proofs.lemmas.Bool.{and_parts, eqb-true, ne_eqb, not-false}
use Rattle.ledger_model.specs.declared.config.Config.{Config}
use Rattle.ledger_model.specs.declared.event.Event.{Event}
use Rattle.ledger_model.specs.declared.event.Event.TheVariants as event
use Rattle.ledger_model.specs.declared.reply.Reply.{Reply}
use Rattle.ledger_model.specs.declared.reply.Reply.TheVariants as reply
use Rattle.ledger_model.specs.declared.reply.Ignored.TheVariants as cause
use Rattle.ledger_model.specs.declared.history.Entry.{Entry}
use Rattle.ledger_model.specs.declared.statement.SignedStatement.{SignedStatement}
use Rattle.ledger_model.specs.Values.{Value}
use Rattle.ledger_model.specs.Rounds.{phase_of, place_of, round_at, lock_place, release_place}
use Rattle.ledger_model.specs.Notes.{Note, Proposed, Round, OwnStatement, Read, Retired, Has, clock_of}
use Rattle.ledger_model.specs.Logs.{height_of, if_some, made_notes, statements_made, notes_of, log_after, log_of}
use Rattle.ledger_model.specs.Reading.{reading_in}
use Rattle.ledger_model.specs.Rules.{MayMake, Ring, causes, answer_to, has_phase}
use Rattle.ledger_model.specs.Locks.{held_values}
use Rattle.ledger_model.specs.Lawful.{held_locks, Lawful, answer, ReplaysFrom, Replay}
use Rattle.lock_proofs.specs.LockTables.{SignedLock, as_statement}
use Rattle.ledger_model.proofs.Lists.{has_cases}
use Rattle.ledger_model.proofs.Goodness.{clock_of-append, made_cases, lock_made}
use Rattle.ledger_model.proofs.Steps.{none_fits, made_note, note_read, map_has, log_of-snoc, replay_good}
use Rattle.lock_proofs.specs.Laws.{IsTimely, BeginsEmpty, StaysTimely, LogsAreTimely}

-- at place 2 a lock is of the phase of its round
lock_phase : (c : ℕ) (s : SignedLock) → has_phase c (as_statement s).statement ≡ true → place_of c ≡ lock_place → s.lock.phase ≡ phase_of c
lock_phase c s h place =
    let other : nat_eq (place_of c) release_place ≡ false = ne_eqb (place_of c) 4 (λ e. omega arith) in
    eqb-true s.lock.phase (phase_of c) (let g : nat_eq s.lock.phase (phase_of c) ≡ true = rw other at h in g)

-- ---- one note more

timely_more : (log : List Note) (n : Note) → IsTimely log
    → ((c : ℕ) (s : SignedStatement) → n ≡ Read c s → (c ≡ clock_of log) × (has_phase c s.statement ≡ true)) → IsTimely (log ++ n ∷ [])
timely_more log n timely reads =
    let grows = clock_of-append log (n ∷ []) in
    record {
      past = λ c s has. elim (has_cases log (n ∷ []) (Read c s) has) [
        | inl old ↦ (let past = timely.past c s old in omega arith)
        | inr new ↦ elim new [ inl e ↦ (let now = (reads c s e).0 in omega arith) | inr none ↦ absurd none ]
      ];
      of_phase = λ c s has place. elim (has_cases log (n ∷ []) (Read c (as_statement s)) has) [
        | inl old ↦ timely.of_phase c s old place
        | inr new ↦ elim new [ inl e ↦ lock_phase c s ((reads c (as_statement s) e).1) place | inr none ↦ absurd none ]
      ];
    }

pub stays_timely : StaysTimely
stays_timely log (Proposed v) timely on_time = timely_more log (Proposed v) timely (λ c s e. absurd (cc))
stays_timely log (Round d) timely on_time = timely_more log (Round d) timely (λ c s e. absurd (cc))
stays_timely log (OwnStatement d u) timely on_time = timely_more log (OwnStatement d u) timely (λ c s e. absurd (cc))
stays_timely log (Retired f) timely on_time = timely_more log (Retired f) timely (λ c s e. absurd (cc))
stays_timely log (Read d u) timely on_time =
    let parts = and_parts (nat_eq d (clock_of log)) (has_phase (clock_of log) u.statement) on_time in
    let now : d ≡ clock_of log = eqb-true d (clock_of log) (parts.0) in
    let here : has_phase d u.statement ≡ true = subst (λ x. has_phase x u.statement ≡ true) (sym now) (parts.1) in
    timely_more log (Read d u) timely (λ c s e.
    let round : d ≡ c = cc in
    let same : u ≡ s = cc in
    (sym round ∙ now, subst (λ x. has_phase c x.statement ≡ true) same (subst (λ x. has_phase x u.statement ≡ true) round here)))

-- ---- whole histories

-- each lock that was read at place 2 is of the phase of its round
AreOfPhase : List Note → Type 0
AreOfPhase notes = (c : ℕ) (s : SignedLock) → Has notes (Read c (as_statement s)) → place_of c ≡ lock_place → s.lock.phase ≡ phase_of c

none_of_phase : AreOfPhase []
unfolding AreOfPhase
none_of_phase c s has place = absurd has

proposed_of_phase : (b : Bool) (v : Value) → AreOfPhase (cond b (Proposed v ∷ []) [])
unfolding AreOfPhase
proposed_of_phase true v c s has place = elim has [ inl e ↦ absurd (cc) | inr none ↦ absurd none ]
proposed_of_phase false v c s has place = absurd has

retired_of_phase : (b : Bool) (f : ℕ) → AreOfPhase (cond b (Retired f ∷ []) [])
unfolding AreOfPhase
retired_of_phase true f c s has place = elim has [ inl e ↦ absurd (cc) | inr none ↦ absurd none ]
retired_of_phase false f c s has place = absurd has

read_of_phase : (d : ℕ) (b : Bool) (u : SignedStatement) → (b ≡ true → has_phase d u.statement ≡ true)
    → AreOfPhase (cond b (Read d u ∷ []) [])
unfolding AreOfPhase
read_of_phase d false u h c s has place = absurd has
read_of_phase d true u h c s (inr none) place = absurd none
read_of_phase d true u h c s (inl e) place =
    let round : d ≡ c = cc in
    let same : u ≡ as_statement s = cc in
    lock_phase c s (subst (λ x. has_phase c x.statement ≡ true) same (subst (λ x. has_phase x u.statement ≡ true) round (h refl))) place

module _ (meaning : Meanings) (config : Config) (ring : Ring) (id h : ℕ) where
  accepted_phase : (log : List Note) (s : SignedStatement) (u : Unit {0}) → answer_to config ring log s ≡ Ok u
      → has_phase (clock_of log) s.statement ≡ true
  unfolding causes
  accepted_phase log s u ok =
      not-false (has_phase (clock_of log) s.statement)
      (none_fits (causes config ring log s) u (not (has_phase (clock_of log) s.statement)) cause.WrongPhase ok refl)

  delivered_of_phase : (log : List Note) (o : Option SignedStatement) (u : Unit {0})
      → ((s : SignedStatement) → o ≡ Some s → height_of s.statement ≡ h → answer_to config ring log s ≡ Ok u)
      → AreOfPhase (if_some o (λ s. cond (nat_eq (height_of s.statement) h) (Read (clock_of log) s ∷ []) []))
  delivered_of_phase log None u ok = none_of_phase
  delivered_of_phase log (Some s) u ok =
      read_of_phase (clock_of log) (nat_eq (height_of s.statement) h) s
      (λ same. accepted_phase log s u (ok s refl (eqb-true (height_of s.statement) h same)))

  made_of_phase : (log : List Note) (mute : Bool) (ss : List SignedStatement)
      → MayMake config id h log (clock_of log + 1) mute (map (λ s. s.statement) ss)
      → AreOfPhase (Round (clock_of log + 1) ∷ flat_map (made_notes log (clock_of log + 1)) ss)
  unfolding AreOfPhase
  made_of_phase log mute ss may c s (inl e) place = absurd (cc)
  made_of_phase log mute ss may c s (inr has) place =
      let now : ℕ = clock_of log + 1 in
      let r = note_read now ss c (as_statement s) (made_note log now ss (Read c (as_statement s)) has) in
      let made = lock_made config id h log now (map (λ x. x.statement) ss) s.lock
      (made_cases config id h log now mute (map (λ x. x.statement) ss) may)
      (map_has (λ (x : SignedStatement). x.statement) ss (as_statement s) (r.1)) in
      let round : c ≡ clock_of log + 1 = r.0 in
      let at : clock_of log + 1 ≡ round_at lock_place s.lock.phase = made.0 in
      omega arith

  entry_of_phase : (front : List Entry) (e : Event) (r : Reply) → Lawful meaning config ring id front e r
      → AreOfPhase (notes_of config id h (log_of config id h front) e r)
  unfolding notes_of
  entry_of_phase front (event.Propose n) (reply.Proposed (Ok v)) lawful = proposed_of_phase (nat_eq n h) v
  entry_of_phase front (event.Deliver bytes) (reply.Delivered (Ok u)) lawful =
      delivered_of_phase (log_of config id h front) (reading_in config.frames bytes) u (λ s is same.
      subst (λ x. answer_to config ring (log_of config id x front) s ≡ Ok u) same
      (subst (λ o. answer config ring id front o ≡ Ok u) is (sym lawful)))
  entry_of_phase front event.RoundEnd (reply.RoundEnded (Ok ended)) lawful =
      made_of_phase (log_of config id h front) ended.mute
      (statements_made config id h (log_of config id h front) (clock_of (log_of config id h front) + 1) ended) ((lawful.1).makes h)
  entry_of_phase front (event.Retire g) (reply.Retired (Ok f)) lawful = retired_of_phase (nat_lt h f) f
  entry_of_phase front e r lawful = none_of_phase

  joined_of_phase : (log notes : List Note) → AreOfPhase log → AreOfPhase notes → AreOfPhase (log ++ notes)
  unfolding AreOfPhase
  joined_of_phase log notes before now c s has place =
      elim (has_cases log notes (Read c (as_statement s)) has) [ inl old ↦ before c s old place | inr new ↦ now c s new place ]

  replay_of_phase : (front es : List Entry) → AreOfPhase (log_of config id h front) → ReplaysFrom meaning config ring id front es
      → AreOfPhase (log_of config id h (front ++ es))
  unfolding log_of ReplaysFrom
  replay_of_phase front [] before replays = subst (λ es. AreOfPhase (log_of config id h es)) (sym (append-nil front)) before
  replay_of_phase front (e ∷ es) before replays =
      let more : AreOfPhase (log_of config id h front ++ notes_of config id h (log_of config id h front) e.event e.reply) =
      joined_of_phase (log_of config id h front) (notes_of config id h (log_of config id h front) e.event e.reply) before
      (entry_of_phase front (e.event) (e.reply) (replays.0)) in
      let next = subst AreOfPhase (sym (log_of-snoc meaning config ring id h [] front e)) more in
      subst (λ xs. AreOfPhase (log_of config id h xs)) (append_assoc front (e ∷ []) es)
      (replay_of_phase (front ++ e ∷ []) es next (replays.2))

pub begins_empty : BeginsEmpty
unfolding held_locks held_values
begins_empty = record { timely = record { past = λ c s has. absurd has; of_phase = λ c s has place. absurd has }; none_held = refl }

pub logs_are_timely : LogsAreTimely
unfolding Replay log_of log_after AreOfPhase
logs_are_timely meaning config ring id h entries replays = record {
  past = (replay_good meaning config ring id h entries replays).past;
  of_phase = replay_of_phase meaning config ring id h [] entries none_of_phase replays;
}
