-- Each statement that a lawful history sends as its own is in the history's log at the statement's height, as made. The
-- heights and phases of what it sends and accepts fit four bytes, since only low heights are opened and rounds are few.
use Rattle.ledger_model.specs.Meanings.{Meanings}
use Rattle.std.proofs.Common.{◌≡◌, ℕ, ◌+◌, ◌≤◌, Bool, true, false, not, ◌&&◌, ◌||◌, cond, ◌⊎◌, inl, inr, List, [], ◌∷◌, ◌++◌, map}
use Rattle.std.proofs.Common.{refl, sym, ap, subst, ◌∙◌, append_assoc, arith}
use Rattle.std.specs.Prelude.{nat_eq, nat_lt, nat_le, length, take, Option, Some, None, Ok}
use Rattle.std.specs.List.{flat_map, filter_map, list_all, AllByRecursion}
use Rattle.std.proofs.lemmas.List.{append-nil}
use Rattle.std.proofs.lemmas.Bool.{and_parts, cases_Bool, eqb-true, eq-eqb, leb-true, ltb-false, not-false, or_parts}
use Rattle.ledger_model.specs.Limits.{max_height, last_round, max_ahead}
use Rattle.ledger_model.specs.Versions.{batch_limit}
use Rattle.ledger_model.specs.declared.config.Config.{Config}
use Rattle.ledger_model.specs.declared.event.Event.{Event}
use Rattle.ledger_model.specs.declared.event.Event.TheVariants as event
use Rattle.ledger_model.specs.declared.reply.Reply.{Reply}
use Rattle.ledger_model.specs.declared.reply.Reply.TheVariants as reply
use Rattle.ledger_model.specs.declared.reply.Ignored.TheVariants as cause
use Rattle.ledger_model.specs.declared.reply.ProposeRefusal.{ProposeRefusal}
use Rattle.ledger_model.specs.declared.reply.ProposeRefusal.TheVariants as closed
use Rattle.ledger_model.specs.declared.reply.Sent.{Sent}
use Rattle.ledger_model.specs.declared.history.Entry.{Entry}
use Rattle.ledger_model.specs.declared.statement.Lock.{Lock}
use Rattle.ledger_model.specs.declared.statement.SignedReport.{SignedReport}
use Rattle.ledger_model.specs.declared.statement.SignedStatement.{SignedStatement}
use Rattle.ledger_model.specs.declared.statement.Statement.{Statement}
use Rattle.ledger_model.specs.declared.statement.Statement.TheVariants as statement
use Rattle.ledger_model.specs.Values.{Value}
use Rattle.ledger_model.specs.Rounds.{place_of, phase_of, quorum, release_place}
use Rattle.ledger_model.specs.Notes.{Note, Proposed, Round, OwnStatement, Read, Retired, Has, clock_of, initial_of, open_of, is_open}
use Rattle.ledger_model.specs.Validity.{ascends_within, signers_of, is_quorate}
use Rattle.ledger_model.specs.Logs.{height_of, if_some, is_read_at_once, made_notes, statements_sent, statements_made, notes_of, log_after}
use Rattle.ledger_model.specs.Logs.{log_of}
use Rattle.ledger_model.specs.Spelling.{statement_bytes}
use Rattle.ledger_model.specs.Reading.{reading, reading_in}
use Rattle.ledger_model.specs.Pools.{first_fault}
use Rattle.ledger_model.specs.Commits.{commits_of, floor_of, pool_of, propose_reply}
use Rattle.ledger_model.specs.Rules.{Ring, MayMake, MayMakeOpen, phase_in, has_phase, causes, answer_to}
use Rattle.ledger_model.specs.Lawful.{Lawful, Follows, clock_at, is_opened}
use Rattle.ledger_model.specs.Audits.{sends, sent_from, own_sent}
use Rattle.ledger_model.proofs.Lists.{all_has, each_from, each_has, has_cases, has_left, has_right, has_map, has_filter, filter_map_has}
use Rattle.ledger_model.proofs.Goodness.{clock_of-append, open_value, may_cases, has_none, Made_by, made_cases, report_made}
use Rattle.ledger_model.proofs.Goodness.{lock_made, ack_made}
use Rattle.ledger_model.proofs.Steps.{none_fits, accepted_reads, clock_of-made, map_has, log_of-snoc}
use Rattle.ledger_model.proofs.Staying.{some_value, log_after-append, grown}
use Rattle.ledger_model.proofs.Floors.{each_entry}
use Rattle.ledger_laws.proofs.Backing.{has_made_note}
use Rattle.ledger_laws.proofs.Unforged.{sent_made}
use Rattle.ledger_laws.proofs.Encodings.{IsShort, FitsPlace, FitsSigned, FitsWidths, HasShortProof, read_short}

-- ---- widths

-- the reports in the proof of a quorate lock fit if the lock does
proof_fits : (config : Config) (l : Lock) → is_quorate config l ≡ true → FitsPlace l.height l.phase → HasShortProof (statement.Lock l)
    → AllByRecursion FitsSigned l.proof
proof_fits config l quorate place short =
    let parts = and_parts (nat_eq (length l.proof) (quorum config) && ascends_within 0 config.replicas (signers_of l.proof))
    (list_all (λ (s : SignedReport). nat_eq s.report.height l.height && nat_eq s.report.phase l.phase) l.proof) quorate in
    each_from FitsSigned l.proof (λ s has.
    let same = and_parts (nat_eq s.report.height l.height) (nat_eq s.report.phase l.phase)
    (all_has (λ (x : SignedReport). nat_eq x.report.height l.height && nat_eq x.report.phase l.phase) l.proof s parts.1 has) in
    let height : s.report.height ≡ l.height = eqb-true s.report.height l.height same.0 in
    let phase : s.report.phase ≡ l.phase = eqb-true s.report.phase l.phase same.1 in
    record {
      report = (omega (arith, height, place.0), omega (arith, phase, place.1));
      signature = each_has (λ (x : SignedReport). IsShort x.signature) l.proof s short has;
    })

-- a statement fits if its height and phase are low and, if it is a lock, its proof is a quorum's
fits_from : (config : Config) (s : Statement) → height_of s ≤ max_height → phase_in s ≤ last_round → HasShortProof s
    → ((l : Lock) → s ≡ statement.Lock l → is_quorate config l ≡ true) → FitsWidths s
fits_from config (statement.Report r) low_height low_phase short quorate = (omega arith, omega arith)
fits_from config (statement.Ack a) low_height low_phase short quorate = (omega arith, omega arith)
fits_from config (statement.Lock l) low_height low_phase short quorate =
    let place : FitsPlace l.height l.phase = (omega arith, omega arith) in
    record { place = place; proof = proof_fits config l (quorate l refl) place short }

-- a statement that fits round c is of a phase up to the round's
phase_low : (c : ℕ) (s : Statement) → has_phase c s ≡ true → phase_in s ≤ phase_of c
phase_low c (statement.Report r) is = let e = eqb-true r.phase (phase_of c) is in omega arith
phase_low c (statement.Ack a) is = let e = eqb-true a.phase (phase_of c) is in omega arith
phase_low c (statement.Lock l) is = either (nat_eq (place_of c) release_place) is
  where
    either : (b : Bool) → cond b (nat_le l.phase (phase_of c)) (nat_eq l.phase (phase_of c)) ≡ true → l.phase ≤ phase_of c
    either true le = leb-true l.phase (phase_of c) le
    either false same = let e = eqb-true l.phase (phase_of c) same in omega arith

-- ---- which heights are open

initial_cases : (xs ys : List Note) (v : Value) → initial_of (xs ++ ys) ≡ Some v → (initial_of xs ≡ Some v) ⊎ (initial_of ys ≡ Some v)
initial_cases [] ys v e = inr e
initial_cases (Proposed w ∷ xs) ys v e = inl e
initial_cases (Round c ∷ xs) ys v e = initial_cases xs ys v e
initial_cases (OwnStatement c s ∷ xs) ys v e = initial_cases xs ys v e
initial_cases (Read c s ∷ xs) ys v e = initial_cases xs ys v e
initial_cases (Retired f ∷ xs) ys v e = initial_cases xs ys v e

initial_if : (b : Bool) (w v : Value) → initial_of (cond b (Proposed w ∷ []) []) ≡ Some v → b ≡ true
initial_if true w v e = refl
initial_if false w v e = cc

initial_retired : (b : Bool) (f : ℕ) → initial_of (cond b (Retired f ∷ []) []) ≡ None
initial_retired true f = refl
initial_retired false f = refl

initial_delivered : (c h : ℕ) (o : Option SignedStatement)
    → initial_of (if_some o (λ s. cond (nat_eq (height_of s.statement) h) (Read c s ∷ []) [])) ≡ None
initial_delivered c h None = refl
initial_delivered c h (Some s) = read (nat_eq (height_of s.statement) h)
  where
    read : (b : Bool) → initial_of (cond b (Read c s ∷ []) []) ≡ None
    read true = refl
    read false = refl

initial_made : (log : List Note) (c : ℕ) (ss : List SignedStatement) → initial_of (flat_map (made_notes log c) ss) ≡ None
initial_made log c [] = refl
initial_made log c (s ∷ ss) = made (is_read_at_once log s.statement) (flat_map (made_notes log c) ss) (initial_made log c ss)
  where
    made : (b : Bool) (rest : List Note) → initial_of rest ≡ None
        → initial_of ((OwnStatement c s.statement ∷ cond b (Read c s ∷ []) []) ++ rest) ≡ None
    made true rest e = e
    made false rest e = e

none_some : {X : Type 0} (o : Option X) (x : X) → o ≡ None → o ≡ Some x → ⊥
none_some o x none some = cc

not_closed : (b : Bool) (cs : List (Bool × ProposeRefusal)) (v w : Value) → Ok w ≡ first_fault ((b, closed.Closed) ∷ cs) v → b ≡ false
not_closed true cs v w e = cc
not_closed false cs v w e = refl

low_opened : (meaning : Meanings) (config : Config) (id : ℕ) (front : List Entry) (n : ℕ) (v : Value)
    → Ok v ≡ propose_reply meaning config id front n → n ≤ max_height
unfolding propose_reply
low_opened meaning config id front n v e =
    let open_now = not_closed (nat_eq n 0 || nat_lt max_height n)
    ((nat_lt n (floor_of front), closed.Retired)
    ∷ (is_open (log_of config id n front), closed.AlreadyOpen)
    ∷ (nat_lt (length (commits_of config id front) + max_ahead) n, closed.TooFar)
    ∷ []) (take (batch_limit config.frames) (pool_of meaning config id front)) v e in
    ltb-false max_height n ((or_parts (nat_eq n 0) (nat_lt max_height n) open_now).1)

module _ (meaning : Meanings) (config : Config) (ring : Ring) (id h : ℕ) where
  low_note : (front : List Entry) (log : List Note) (e : Event) (r : Reply) → Lawful meaning config ring id front e r
      → (v : Value) → initial_of (notes_of config id h log e r) ≡ Some v → h ≤ max_height
  unfolding notes_of
  low_note front log (event.Propose n) (reply.Proposed (Ok w)) lawful v is =
      let same : n ≡ h = eqb-true n h (initial_if (nat_eq n h) w v is) in
      let low = low_opened meaning config id front n w lawful in
      omega arith
  low_note front log (event.Deliver bytes) (reply.Delivered (Ok u)) lawful v is =
      absurd (none_some _ v (initial_delivered (clock_of log) h (reading_in config.frames bytes)) is)
  low_note front log event.RoundEnd (reply.RoundEnded (Ok ended)) lawful v is =
      absurd (none_some _ v (initial_made log (clock_of log + 1) (statements_made config id h log (clock_of log + 1) ended)) is)
  low_note front log (event.Retire g) (reply.Retired (Ok f)) lawful v is = absurd (none_some _ v (initial_retired (nat_lt h f) f) is)
  low_note front log e r lawful v is = cc

  -- a lawful history opens no height above the greatest
  low_height : (entries : List Entry) → Follows meaning config ring id entries → (v : Value)
      → initial_of (log_of config id h entries) ≡ Some v
      → h ≤ max_height
  unfolding log_of log_after
  low_height entries follows =
      each_entry meaning config ring id (λ es. (v : Value) → initial_of (log_of config id h es) ≡ Some v → h ≤ max_height) (λ v is. cc)
      (λ front e next before lawful low v is. elim (initial_cases (log_of config id h front) _ v
      (subst (λ l. initial_of l ≡ Some v) (log_of-snoc meaning config ring id h [] front e) is)) [
        | inl old ↦ low v old
        | inr new ↦ low_note front (log_of config id h front) (e.event) (e.reply) lawful v new
      ]) entries follows

  -- ---- clocks

  -- the number of rounds that the reply opens
  abbrev opens : Reply → ℕ
  opens r = cond (is_opened r) 1 0

  clock_proposed : (b : Bool) (v : Value) → clock_of (cond b (Proposed v ∷ []) []) ≡ 0
  clock_proposed true v = refl
  clock_proposed false v = refl

  clock_retired : (b : Bool) (f : ℕ) → clock_of (cond b (Retired f ∷ []) []) ≡ 0
  clock_retired true f = refl
  clock_retired false f = refl

  clock_delivered : (c : ℕ) (o : Option SignedStatement)
      → clock_of (if_some o (λ s. cond (nat_eq (height_of s.statement) h) (Read c s ∷ []) [])) ≡ 0
  clock_delivered c None = refl
  clock_delivered c (Some s) = read (nat_eq (height_of s.statement) h)
    where
      read : (b : Bool) → clock_of (cond b (Read c s ∷ []) []) ≡ 0
      read true = refl
      read false = refl

  notes_clock : (front : List Entry) (log : List Note) (e : Event) (r : Reply) → Lawful meaning config ring id front e r
      → clock_of (notes_of config id h log e r) ≡ opens r
  unfolding notes_of
  notes_clock front log event.RoundEnd (reply.RoundEnded (Ok ended)) lawful =
      let rest = clock_of-made log (clock_of log + 1) (statements_made config id h log (clock_of log + 1) ended) in omega (arith, rest)
  notes_clock front log (event.Submit x) (reply.RoundEnded (Ok ended)) lawful = absurd lawful
  notes_clock front log (event.Propose x) (reply.RoundEnded (Ok ended)) lawful = absurd lawful
  notes_clock front log (event.Deliver x) (reply.RoundEnded (Ok ended)) lawful = absurd lawful
  notes_clock front log event.Execute (reply.RoundEnded (Ok ended)) lawful = absurd lawful
  notes_clock front log (event.Query x y) (reply.RoundEnded (Ok ended)) lawful = absurd lawful
  notes_clock front log (event.Retire x) (reply.RoundEnded (Ok ended)) lawful = absurd lawful
  notes_clock front log (event.Propose n) (reply.Proposed (Ok v)) lawful = clock_proposed (nat_eq n h) v
  notes_clock front log (event.Deliver bytes) (reply.Delivered (Ok u)) lawful = clock_delivered (clock_of log)
      (reading_in config.frames bytes)
  notes_clock front log (event.Retire g) (reply.Retired (Ok f)) lawful = clock_retired (nat_lt h f) f
  notes_clock front log e r lawful = refl

  clock_at-snoc : (xs : List Entry) (e : Entry) → clock_at (xs ++ e ∷ []) ≡ clock_at xs + opens e.reply
  clock_at-snoc [] e = refl
  clock_at-snoc (x ∷ xs) e = let rest = clock_at-snoc xs e in omega arith

  -- the open round is the same at every height
  pub clock_is : (entries : List Entry) → Follows meaning config ring id entries → clock_of (log_of config id h entries) ≡ clock_at entries
  unfolding log_of log_after
  clock_is entries follows =
      each_entry meaning config ring id (λ es. clock_of (log_of config id h es) ≡ clock_at es) refl
      (λ front e next before lawful is.
      let log : List Note = log_of config id h front in
      let snoc : clock_of (log_of config id h (front ++ e ∷ [])) ≡ clock_of (log ++ notes_of config id h log e.event e.reply) =
      ap clock_of (log_of-snoc meaning config ring id h [] front e) in
      let both = clock_of-append log (notes_of config id h log e.event e.reply) in
      let notes = notes_clock front log (e.event) (e.reply) lawful in
      let count = clock_at-snoc front e in
      omega (arith, snoc, both, notes, count, is)) entries follows

  -- no round after the last is opened
  clock_low : (entries : List Entry) → Follows meaning config ring id entries → clock_at entries ≤ last_round
  clock_low entries follows =
      each_entry meaning config ring id (λ es. clock_at es ≤ last_round) (omega arith)
      (λ front e next before lawful low.
      let count = clock_at-snoc front e in
      let one = opened_low front (e.event) (e.reply) lawful low in
      omega (arith, count, one)) entries follows
    where
      opened_low : (front : List Entry) (e : Event) (r : Reply) → Lawful meaning config ring id front e r → clock_at front ≤ last_round
          → clock_at front + opens r ≤ last_round
      opened_low front event.RoundEnd (reply.RoundEnded (Ok ended)) lawful low = omega (arith, lawful.0)
      opened_low front (event.Submit x) (reply.RoundEnded (Ok ended)) lawful low = absurd lawful
      opened_low front (event.Propose x) (reply.RoundEnded (Ok ended)) lawful low = absurd lawful
      opened_low front (event.Deliver x) (reply.RoundEnded (Ok ended)) lawful low = absurd lawful
      opened_low front event.Execute (reply.RoundEnded (Ok ended)) lawful low = absurd lawful
      opened_low front (event.Query x y) (reply.RoundEnded (Ok ended)) lawful low = absurd lawful
      opened_low front (event.Retire x) (reply.RoundEnded (Ok ended)) lawful low = absurd lawful
      opened_low front e r lawful low = omega (arith, low)

-- ---- what is accepted

-- an accepted statement fits its widths, and so does each report in its proof
pub accepted_fits : (meaning : Meanings) (config : Config) (ring : Ring) (id : ℕ) (front : List Entry) (bytes : List ℕ)
    (s : SignedStatement) (u : Unit {0})
    → Follows meaning config ring id front → reading bytes ≡ Some s
    → answer_to config ring (log_of config id (height_of s.statement) front) s ≡ Ok u → FitsWidths s.statement
unfolding causes
accepted_fits meaning config ring id front bytes s u follows spelled ok =
    let log : List Note = log_of config id (height_of s.statement) front in
    let open_test = none_fits (causes config ring log s) u (not (is_open log)) cause.NoRow ok refl in
    let opened = some_value (open_of log) (not-false (is_open log) open_test) in
    let low = low_height meaning config ring id (height_of s.statement) front follows opened.0 ((open_value log opened.0 opened.1).1) in
    let phase_test = none_fits (causes config ring log s) u (not (has_phase (clock_of log) s.statement)) cause.WrongPhase ok refl in
    let phase = phase_low (clock_of log) s.statement (not-false (has_phase (clock_of log) s.statement) phase_test) in
    let clock = clock_is meaning config ring id (height_of s.statement) front follows in
    let clock_end = clock_low meaning config ring id 0 front follows in
    fits_from config s.statement low (omega (arith, phase, clock, clock_end)) (read_short bytes s spelled)
    (λ l is. (accepted_reads config ring log s u ok l is).quorate)

-- ---- what is sent

-- a statement with this encoding that the history's log has as made
pub record OwnNote (config : Config) (id : ℕ) (entries : List Entry) (bytes : List ℕ) : Type 0 where
  pub made : Statement
  pub spelled : statement_bytes made ≡ bytes
  pub fits : FitsWidths made
  pub round : ℕ
  pub note : Has (log_of config id (height_of made) entries) (OwnStatement round made)

-- what is made in a round up to the last has a phase up to that number
made_phase : (config : Config) (id h : ℕ) (front : List Note) (d : ℕ) (made : List Statement) (u : Statement)
    → Made_by config id h front d made → Has made u → d ≤ last_round → phase_in u ≤ last_round
made_phase config id h front d made (statement.Report r) by has low = omega (arith, (report_made config id h front d made r by has).0)
made_phase config id h front d made (statement.Lock l) by has low = omega (arith, (lock_made config id h front d made l by has).0)
made_phase config id h front d made (statement.Ack a) by has low = omega (arith, (ack_made config id h front d made a by has).0)

-- something is made only where the height is open
made_opened : (config : Config) (id h : ℕ) (log : List Note) (d : ℕ) (mute : Bool) (made : List Statement) (u : Statement)
    → MayMake config id h log d mute made → Has made u → (v : Value) × (initial_of log ≡ Some v)
unfolding MayMake
made_opened config id h log d mute made u may has =
    elim (may_cases mute (open_of log) made (λ own. MayMakeOpen config id h log d own made) may) [
      | inl none ↦ absurd (has_none made u none has)
      | inr some ↦ (some.0, (open_value log (some.0) (some.1.0)).1)
    ]

-- a log keeps its notes as entries are added
pub note_stays : (config : Config) (id h : ℕ) (xs ys : List Entry) (n : Note) → Has (log_of config id h xs) n
    → Has (log_of config id h (xs ++ ys)) n
unfolding log_of
note_stays config id h xs ys n has =
    let more = grown config id h (log_after config id h [] xs) ys in
    subst (λ l. Has l n) (sym (log_after-append config id h [] xs ys ∙ more.1.0)) (has_left (log_after config id h [] xs) more.0 n has)

module _ (meaning : Meanings) (config : Config) (ring : Ring) (id : ℕ) where
  -- what an entry sends fits its widths, and the entry notes it as made
  new_note : (front : List Entry) (e : Event) (r : Reply) → Follows meaning config ring id front → Lawful meaning config ring id front e r
      → (s : Statement) → Has (sends (clock_at front) r) s
      → FitsWidths s
      × ((c : ℕ) × Has (notes_of config id (height_of s) (log_of config id (height_of s) front) e r) (OwnStatement c s))
  unfolding notes_of statements_sent
  new_note front event.RoundEnd (reply.RoundEnded (Ok ended)) follows lawful s has =
      elim (cases_Bool (nat_eq (place_of (clock_at front + 1)) release_place)) [
        | inl at_4 ↦ absurd (let none : Has [] s = simp at_4 at has in none)
        | inr not_4 ↦
            let among : Has (map (λ (x : SignedStatement). x.statement) (filter_map (λ (f : Sent). reading f.frame) ended.frames)) s =
            simp not_4 at has in
            let signed = has_map (λ (x : SignedStatement). x.statement) (filter_map (λ (f : Sent). reading f.frame) ended.frames) s among in
            let frame = filter_map_has (λ (f : Sent). reading f.frame) ended.frames signed.0 signed.1.0 in
            let h : ℕ = height_of signed.0.statement in
            let log : List Note = log_of config id h front in
            let c : ℕ = clock_of log + 1 in
            let clock = clock_is meaning config ring id h front follows in
            let sent : Has (statements_sent h ended) signed.0 =
            has_filter (λ (x : SignedStatement). nat_eq (height_of x.statement) h) (filter_map (λ (f : Sent). reading f.frame) ended.frames)
            signed.0 signed.1.0 (eq-eqb h h refl) in
            let not_release : nat_eq (place_of c) release_place ≡ false =
            subst (λ n. nat_eq (place_of (n + 1)) release_place ≡ false) (sym clock) not_4 in
            let ss : List SignedStatement = statements_made config id h log c ended in
            let its : Has ss signed.0 = sent_made config id h log c ended signed.0 not_release sent in
            let made : List Statement = map (λ x. x.statement) ss in
            let in_made : Has made signed.0.statement = map_has (λ (x : SignedStatement). x.statement) ss signed.0 its in
            let may = (lawful.1).makes h in
            let by = made_cases config id h log c ended.mute made may in
            let opened = made_opened config id h log c ended.mute made signed.0.statement may in_made in
            let low = low_height meaning config ring id h front follows opened.0 opened.1 in
            let phase = made_phase config id h log c made signed.0.statement by in_made (omega (arith, clock, lawful.0)) in
            let fits : FitsWidths signed.0.statement =
            fits_from config signed.0.statement low phase (read_short frame.0.frame signed.0 frame.1.1)
            (λ l is. (lock_made config id h log c made l by (subst (Has made) is in_made)).1.1.0.quorate) in
            let note : Has (notes_of config id h log event.RoundEnd (reply.RoundEnded (Ok ended))) (OwnStatement c signed.0.statement) =
            inr (has_made_note log c ss signed.0 its) in
            subst (λ (t : Statement). FitsWidths t × ((d : ℕ) × Has (notes_of config id (height_of t)
            (log_of config id (height_of t) front) event.RoundEnd (reply.RoundEnded (Ok ended))) (OwnStatement d t))) signed.1.1
            (fits, (c, note))
      ]
  new_note front (event.Submit x) (reply.RoundEnded (Ok ended)) follows lawful s has = absurd lawful
  new_note front (event.Propose x) (reply.RoundEnded (Ok ended)) follows lawful s has = absurd lawful
  new_note front (event.Deliver x) (reply.RoundEnded (Ok ended)) follows lawful s has = absurd lawful
  new_note front event.Execute (reply.RoundEnded (Ok ended)) follows lawful s has = absurd lawful
  new_note front (event.Query x y) (reply.RoundEnded (Ok ended)) follows lawful s has = absurd lawful
  new_note front (event.Retire x) (reply.RoundEnded (Ok ended)) follows lawful s has = absurd lawful
  new_note front e r follows lawful s has = absurd has

  -- what is sent with one entry more
  sent_from-snoc : (c : ℕ) (xs : List Entry) (e : Entry) → sent_from c (xs ++ e ∷ []) ≡ sent_from c xs ++ sends (c + clock_at xs) e.reply
  sent_from-snoc c [] e =
      let same : c ≡ c + 0 = omega arith in
      append-nil (sends c e.reply) ∙ ap (λ n. sends n e.reply) same
  sent_from-snoc c (x ∷ xs) e =
      ap (λ ss. sends c x.reply ++ ss) (rest (λ d. sent_from-snoc d xs e) (is_opened x.reply)) ∙ sym (append_assoc (sends c x.reply) _ _)
    where
      rest : ((d : ℕ) → sent_from d (xs ++ e ∷ []) ≡ sent_from d xs ++ sends (d + clock_at xs) e.reply) → (b : Bool)
          → sent_from (cond b (c + 1) c) (xs ++ e ∷ [])
          ≡ sent_from (cond b (c + 1) c) xs ++ sends (c + (clock_at xs + cond b 1 0)) e.reply
      rest known true =
          let same : c + 1 + clock_at xs ≡ c + (clock_at xs + 1) = omega arith in
          known (c + 1) ∙ ap (λ n. sent_from (c + 1) xs ++ sends n e.reply) same
      rest known false =
          let same : c + clock_at xs ≡ c + (clock_at xs + 0) = omega arith in
          known c ∙ ap (λ n. sent_from c xs ++ sends n e.reply) same

  -- whatever encoding a lawful history sends as its own, its log has such a statement as made
  pub own_note : (entries : List Entry) → Follows meaning config ring id entries → (bytes : List ℕ) → Has (own_sent entries) bytes
      → OwnNote config id entries bytes
  unfolding own_sent log_of
  own_note entries follows =
      each_entry meaning config ring id (λ es. (bytes : List ℕ) → Has (map statement_bytes (sent_from 0 es)) bytes
      → OwnNote config id es bytes)
      (λ bytes has. absurd has) step entries follows
    where
      step : (front : List Entry) (e : Entry) → Follows meaning config ring id (front ++ e ∷ []) → Follows meaning config ring id front
          → Lawful meaning config ring id front e.event e.reply
          → ((bytes : List ℕ) → Has (map statement_bytes (sent_from 0 front)) bytes → OwnNote config id front bytes)
          → (bytes : List ℕ) → Has (map statement_bytes (sent_from 0 (front ++ e ∷ []))) bytes → OwnNote config id (front ++ e ∷ []) bytes
      step front e next before lawful known bytes has =
          let of = has_map statement_bytes (sent_from 0 (front ++ e ∷ [])) bytes has in
          let clock : 0 + clock_at front ≡ clock_at front = omega arith in
          let split : Has (sent_from 0 front ++ sends (clock_at front) e.reply) of.0 =
          subst (λ n. Has (sent_from 0 front ++ sends n e.reply) of.0) clock
          (subst (λ ss. Has ss of.0) (sent_from-snoc 0 front e) of.1.0) in
          elim (has_cases (sent_from 0 front) (sends (clock_at front) e.reply) of.0 split) [
            | inl old ↦
                let was = known bytes (subst (Has (map statement_bytes (sent_from 0 front))) of.1.1
                (map_has statement_bytes (sent_from 0 front) of.0 old)) in
                record {
                  made = was.made;
                  spelled = was.spelled;
                  fits = was.fits;
                  round = was.round;
                  note = note_stays config id (height_of was.made) front (e ∷ []) (OwnStatement was.round was.made) was.note;
                }
            | inr new ↦
                let here = new_note front (e.event) (e.reply) before lawful of.0 new in
                record {
                  made = of.0;
                  spelled = of.1.1;
                  fits = here.0;
                  round = here.1.0;
                  note = subst (λ l. Has l (OwnStatement here.1.0 of.0))
                      (sym (log_of-snoc meaning config ring id (height_of of.0) [] front e))
                      (has_right (log_of config id (height_of of.0) front) _ (OwnStatement here.1.0 of.0) here.1.1);
                }
          ]
