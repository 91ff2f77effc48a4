-- What an entry decides: what is decided after it at the open heights where nothing was decided before it.
use Rattle.ledger_model.specs.Meanings.{Meanings}
use Rattle.std.proofs.Common.{◌≡◌, ◌∙◌, ℕ, zero, suc, ◌+◌, ◌*◌, ◌/◌, ◌<◌, ◌≤◌, Bool, true, false, ◌&&◌, cond, inl, inr, List, [], ◌∷◌, ◌++◌}
use Rattle.std.proofs.Common.{length, refl, sym, ap, arith}
use Rattle.std.specs.Prelude.{Option, Some, None, Ok, is_some, nat_lt, filter, find}
use Rattle.std.specs.Option.{is_none}
use Rattle.std.specs.List.{filter_map, flat_map, cons_option, range_with_len}
use Rattle.std.proofs.lemmas.Bool.{and_parts, cases_lt, le-ltb, false≢true}
use Rattle.ledger_model.specs.declared.config.Config.{Config}
use Rattle.ledger_model.specs.declared.history.Entry.{Entry}
use Rattle.ledger_model.specs.declared.reply.Reply.{Reply}
use Rattle.ledger_model.specs.declared.reply.Reply.TheVariants as reply
use Rattle.ledger_model.specs.declared.statement.Statement.{Statement}
use Rattle.ledger_model.specs.Commits.{decided_at, decision_at, executed, floor_of, floor_step}
use Rattle.ledger_model.specs.Lawful.{is_opened}
use Rattle.ledger_model.specs.Limits.{max_height}
use Rattle.ledger_model.specs.Locks.{decided_by, decided_of, is_acked, or_else, value_made}
use Rattle.ledger_model.specs.Logs.{log_of, notes_of}
use Rattle.ledger_model.specs.Notes.{Note, Proposed, Round, OwnStatement, Read, Retired, clock_of, is_lock, is_open, was_made}
use Rattle.ledger_model.specs.Rounds.{lock_place, round_at, rounds_in_phase}
use Rattle.ledger_model.specs.Rules.{Ring}
use Rattle.ledger_model.specs.Values.{Value, same_value}
use Rattle.ledger_model.proofs.Floors.{floor_of-snoc}
use Rattle.ledger_model.proofs.Staying.{From, decided_stays, find_none, from_below, from_entry, made_stays}
use Rattle.ledger_model.proofs.Steps.{log_of-snoc}
use Rattle.instance.specs.Instances.{InstanceView}
use Rattle.instance.specs.Matching.{only_rounds}
use Rattle.height_row.specs.Heights.{row_at}
use Rattle.replica_core.specs.Facts.{heights_up_to, is_undecided, undecided_heights}
use Rattle.replica_core.specs.Following.{IsSameReplay}
use Rattle.replica_core.specs.Replays.{ReplayView, MatchesHistory}
use Rattle.replica_core.proofs.Histories.{clock_more, count_commits}
use Rattle.replica_core.proofs.Unopened.{none_below, opened_there}
use Rattle.run_picture.specs.declared.entry_facts.Mark.{Mark}
use Rattle.run_picture.specs.declared.part.Part.{Part}
use Rattle.run_picture.specs.Decisions.{Decision, decision_mark, decision_with, decisions_with, mark_if, new_decision}

-- ---- two ways to find marks at heights

-- the marks of a decision, if there is one
abbrev marks_of : (Decision → List Mark) → Option Decision → List Mark
marks_of mark None = []
marks_of mark (Some d) = mark d

module _ (test : ℕ → Bool) (here : ℕ → List Mark) (found : ℕ → Option Decision) (mark : Decision → List Mark) where
  -- at one height more
  one : (b : Bool) (o : Option Decision) (h : ℕ) (hs : List ℕ) (ds : List Decision) → cond b (here h) [] ≡ marks_of mark o
      → flat_map here hs ≡ flat_map mark ds → flat_map here (cond b (h ∷ hs) hs) ≡ flat_map mark (cons_option o ds)
  one true (Some d) h hs ds same rest = ap (λ l. l ++ flat_map here hs) same ∙ ap (λ l. mark d ++ l) rest
  one true None h hs ds same rest = ap (λ l. l ++ flat_map here hs) same ∙ rest
  one false (Some d) h hs ds same rest = rest ∙ ap (λ l. l ++ flat_map mark ds) same
  one false None h hs ds same rest = rest

  -- the marks at the heights that pass the test are those of what is found, where they are so at each height
  same_marks : (a n : ℕ) → ((h : ℕ) → a ≤ h → cond (test h) (here h) [] ≡ marks_of mark (found h))
      → flat_map here (filter test (range_with_len a n)) ≡ flat_map mark (filter_map found (range_with_len a n))
  same_marks a zero same = refl
  same_marks a (suc n) same =
      one (test a) (found a) a (filter test (range_with_len (a + 1) n)) (filter_map found (range_with_len (a + 1) n)) (same a (omega arith))
      (same_marks (a + 1) n (λ h le. same h (omega (arith, le))))

-- nothing is found where nothing is at any height
none_found : (found : ℕ → Option Decision) (a n : ℕ) → ((h : ℕ) → found h ≡ None) → filter_map found (range_with_len a n) ≡ []
none_found found a zero none = refl
none_found found a (suc n) none =
    ap (λ o. cons_option o (filter_map found (range_with_len (a + 1) n))) (none a) ∙ none_found found (a + 1) n none

-- ---- what is new

-- nothing was decided before
new_same : (part : Part) (r i clock h : ℕ) (o : Option Value)
    → mark_if part r i clock h o ≡ marks_of (decision_mark part r i clock) (new_decision h None o)
new_same part r i clock h None = refl
new_same part r i clock h (Some v) = refl

-- something was
not_new : (h : ℕ) (before after : Option Value) → is_some before ≡ true → new_decision h before after ≡ None
not_new h None after some = absurd (cc some)
not_new h (Some v) after some = refl

-- nothing is decided after
none_new : (h : ℕ) (before : Option Value) → new_decision h before None ≡ None
none_new h None = refl
none_new h (Some v) = refl

-- the same is decided after
same_new : (h : ℕ) (o : Option Value) → new_decision h o o ≡ None
same_new h None = refl
same_new h (Some v) = refl

-- ---- logs of opened rounds

-- no statement was made there
none_made : (log : List Note) (c : ℕ) (test : Statement → Bool) → only_rounds log ≡ true → was_made log c test ≡ false
none_made [] c test only = refl
none_made (Round d ∷ log) c test only = none_made log c test only
none_made (Proposed v ∷ log) c test only = cc
none_made (OwnStatement d s ∷ log) c test only = cc
none_made (Read d s ∷ log) c test only = cc
none_made (Retired f ∷ log) c test only = cc

-- no phase decides there that is over once the next round opens
none_decided : (config : Config) (log more : List Note) → only_rounds log ≡ true → From (clock_of log) more → (k : ℕ)
    → rounds_in_phase * k ≤ clock_of log + 1 → decided_by config (log ++ more) k ≡ None
none_decided config log more only from zero closed = refl
none_decided config log more only from (suc k) closed =
    let early : From (round_at lock_place (suc k) + 1) more =
    from_below (round_at lock_place (suc k) + 1) (clock_of log) more (omega arith) from in
    ap (λ o. or_else o (find (is_acked config (log ++ more) (suc k)) (filter_map value_made (log ++ more))))
    (none_decided config log more only from k (omega arith))
    ∙ find_none (is_acked config (log ++ more) (suc k)) (filter_map value_made (log ++ more)) (λ v has acked.
    let parts = and_parts (was_made (log ++ more) (round_at lock_place (suc k)) (is_lock (λ l. same_value v l.value))) _ acked in
    false≢true (sym (none_made log (round_at lock_place (suc k)) (is_lock (λ l. same_value v l.value)) only)
    ∙ sym (made_stays log more (round_at lock_place (suc k)) (is_lock (λ l. same_value v l.value)) early) ∙ parts.0))

-- ---- one height, and one entry more

module _ (meaning : Meanings) (config : Config) (ring : Ring) (id : ℕ) (front : List Entry) (e : Entry) (h : ℕ) where
  log_then : log_of config id h (front ++ e ∷ [])
      ≡ log_of config id h front ++ notes_of config id h (log_of config id h front) e.event e.reply
  unfolding log_of
  log_then = log_of-snoc meaning config ring id h [] front e

  -- an entry that opens no round decides nothing
  decided_same : clock_of (log_of config id h (front ++ e ∷ [])) ≡ clock_of (log_of config id h front)
      → decided_at config id (front ++ e ∷ []) h ≡ decided_at config id front h
  unfolding decided_of
  decided_same same =
      ap (λ l. decided_by config l (clock_of (log_of config id h (front ++ e ∷ [])) / rounds_in_phase)) log_then
      ∙ ap (λ n. decided_by config (log_of config id h front ++ notes_of config id h (log_of config id h front) e.event e.reply)
      (n / rounds_in_phase)) same
      ∙ decided_stays config (log_of config id h front) (notes_of config id h (log_of config id h front) e.event e.reply)
      (from_entry config id h (log_of config id h front) e.event e.reply) (clock_of (log_of config id h front) / rounds_in_phase)
      (omega arith)

  -- no entry decides where only rounds were opened
  decided_none : only_rounds (log_of config id h front) ≡ true
      → clock_of (log_of config id h (front ++ e ∷ [])) ≤ clock_of (log_of config id h front) + 1
      → decided_at config id (front ++ e ∷ []) h ≡ None
  unfolding decided_of
  decided_none only next =
      ap (λ l. decided_by config l (clock_of (log_of config id h (front ++ e ∷ [])) / rounds_in_phase)) log_then
      ∙ none_decided config (log_of config id h front) (notes_of config id h (log_of config id h front) e.event e.reply) only
      (from_entry config id h (log_of config id h front) e.event e.reply)
      (clock_of (log_of config id h (front ++ e ∷ [])) / rounds_in_phase) (omega (arith, next))

-- ---- a replay with one entry more

-- a round end leaves the floor as it is
floor_kept : (r : Reply) (floor : ℕ) → is_opened r ≡ true → floor_step floor r ≡ floor
floor_kept (reply.Retired (Ok raised)) floor opened = cc
floor_kept r floor opened = refl

module _ (meaning : Meanings) (old new : ReplayView) (front : List Entry) (e : Entry) (matches : MatchesHistory meaning old front)
    (later : MatchesHistory meaning new (front ++ e ∷ [])) (same : IsSameReplay old new) where
  -- the round that is open after it
  clock_there : (h : ℕ) → clock_of (log_of old.config old.id h (front ++ e ∷ []))
      ≡ clock_of (log_of old.config old.id h front) + cond (is_opened e.reply) 1 0
  clock_there h =
      ap (λ c. clock_of (log_of c old.id h (front ++ e ∷ []))) (sym same.config)
      ∙ ap (λ i. clock_of (log_of new.config i h (front ++ e ∷ []))) (sym same.id) ∙ later.clocks h ∙ sym later.clock
      ∙ clock_more front e ∙ ap (λ n. n + cond (is_opened e.reply) 1 0) (matches.clock ∙ sym (matches.clocks h))

  clock_next : (h : ℕ) → clock_of (log_of old.config old.id h (front ++ e ∷ [])) ≤ clock_of (log_of old.config old.id h front) + 1
  clock_next h = by (is_opened e.reply) (clock_there h)
    where
      by : (b : Bool) → clock_of (log_of old.config old.id h (front ++ e ∷ [])) ≡ clock_of (log_of old.config old.id h front) + cond b 1 0
          → clock_of (log_of old.config old.id h (front ++ e ∷ [])) ≤ clock_of (log_of old.config old.id h front) + 1
      by true is = omega (arith, is)
      by false is = omega (arith, is)

  -- a height that isn't open is not decided by it
  unopened_decides : (h : ℕ) → 1 ≤ h → row_at old.rows h ≡ None → decision_with old.config old.id front e h ≡ None
  unopened_decides h some none = elim (cases_lt h old.floor) [
    | inl below ↦
        (let count = ap length matches.commits in
        let blocks = count_commits old.config old.id front matches.blocks in
        let low = matches.low in
        not_new h (decided_at old.config old.id front h) (decided_at old.config old.id (front ++ e ∷ []) h)
        (matches.blocks h some (omega (arith, below, count, blocks, low))))
    | inr from ↦
        ap (λ d. new_decision h (decided_at old.config old.id front h) d)
        (decided_none meaning old.config old.ring old.id front e h (matches.unopened h from none) (clock_next h))
        ∙ none_new h (decided_at old.config old.id front h)
  ]

  -- an entry that opens no round decides nothing
  module _ (closed : is_opened e.reply ≡ false) where
    closed_decides : (h : ℕ) → decision_with old.config old.id front e h ≡ None
    closed_decides h =
        let clock = clock_there h ∙ ap (λ b. clock_of (log_of old.config old.id h front) + cond b 1 0) closed in
        ap (λ d. new_decision h (decided_at old.config old.id front h) d)
        (decided_same meaning old.config old.ring old.id front e h (omega (arith, clock)))
        ∙ same_new h (decided_at old.config old.id front h)

  module _ (opened : is_opened e.reply ≡ true) (part : Part) (r i clock : ℕ) where
    -- a height from the floor on is so after a round end
    given : (h : ℕ) → old.floor ≤ h
        → decision_at old.config old.id (front ++ e ∷ []) h ≡ decided_at old.config old.id (front ++ e ∷ []) h
    given h from = ap (λ b. cond b None (decided_at old.config old.id (front ++ e ∷ []) h))
        (ap (nat_lt h) (floor_of-snoc front e ∙ floor_kept e.reply (floor_of front) opened ∙ matches.floor) ∙ le-ltb h old.floor from)

    -- an open height isn't below the floor
    open_from : (h : ℕ) (row : InstanceView) → row_at old.rows h ≡ Some row → old.floor ≤ h
    open_from h row is = elim (cases_lt h old.floor) [
      | inl below ↦ (let none = none_below meaning old front matches h below in absurd (cc (sym none ∙ is)))
      | inr from ↦ from
    ]

    -- at each height the mark of what is decided after it, where nothing was, is that of what it decides
    at_height : (h : ℕ) → 1 ≤ h
        → cond (is_undecided old.config old.id front h) (mark_if part r i clock h (decision_at old.config old.id (front ++ e ∷ []) h)) []
        ≡ marks_of (decision_mark part r i clock) (decision_with old.config old.id front e h)
    at_height h some = by (row_at old.rows h) refl
      where
        open_is : (b : Bool) → is_some (row_at old.rows h) ≡ b
            → is_undecided old.config old.id front h ≡ (b && is_none (decided_at old.config old.id front h))
        open_is b is = ap (λ x. x && is_none (decided_at old.config old.id front h)) (sym (opened_there meaning old front matches h) ∙ is)

        of : (row : InstanceView) → row_at old.rows h ≡ Some row → (d : Option Value) → decided_at old.config old.id front h ≡ d
            → cond (is_undecided old.config old.id front h) (mark_if part r i clock h (decision_at old.config old.id (front ++ e ∷ []) h)) []
            ≡ marks_of (decision_mark part r i clock) (decision_with old.config old.id front e h)
        of row is None none =
            ap (λ b. cond b (mark_if part r i clock h (decision_at old.config old.id (front ++ e ∷ []) h)) [])
            (open_is true (ap is_some is) ∙ ap is_none none)
            ∙ ap (λ d. mark_if part r i clock h d) (given h (open_from h row is))
            ∙ new_same part r i clock h (decided_at old.config old.id (front ++ e ∷ []) h)
            ∙ ap (λ d. marks_of (decision_mark part r i clock) (new_decision h d (decided_at old.config old.id (front ++ e ∷ []) h)))
            (sym none)
        of row is (Some v) decided =
            ap (λ b. cond b (mark_if part r i clock h (decision_at old.config old.id (front ++ e ∷ []) h)) [])
            (open_is true (ap is_some is) ∙ ap is_none decided)
            ∙ ap (λ d. marks_of (decision_mark part r i clock) (new_decision h d (decided_at old.config old.id (front ++ e ∷ []) h)))
            (sym decided)

        by : (o : Option InstanceView) → row_at old.rows h ≡ o
            → cond (is_undecided old.config old.id front h) (mark_if part r i clock h (decision_at old.config old.id (front ++ e ∷ []) h)) []
            ≡ marks_of (decision_mark part r i clock) (decision_with old.config old.id front e h)
        by (Some row) is = of row is (decided_at old.config old.id front h) refl
        by None is =
            ap (λ b. cond b (mark_if part r i clock h (decision_at old.config old.id (front ++ e ∷ []) h)) []) (open_is false (ap is_some is))
            ∙ ap (marks_of (decision_mark part r i clock)) (sym (unopened_decides h some is))

  -- the same of all heights up to some
  opened_marks : (opened : is_opened e.reply ≡ true) (part : Part) (r i clock n : ℕ)
      → flat_map (λ h. mark_if part r i clock h (decision_at old.config old.id (front ++ e ∷ []) h))
      (filter (is_undecided old.config old.id front) (heights_up_to n))
      ≡ flat_map (decision_mark part r i clock) (filter_map (decision_with old.config old.id front e) (heights_up_to n))
  unfolding heights_up_to
  opened_marks opened part r i clock n =
      same_marks (is_undecided old.config old.id front)
      (λ h. mark_if part r i clock h (decision_at old.config old.id (front ++ e ∷ []) h))
      (decision_with old.config old.id front e) (decision_mark part r i clock) 1 n (at_height opened part r i clock)

  closed_marks : is_opened e.reply ≡ false → (part : Part) (r i clock n : ℕ)
      → [] ≡ flat_map (decision_mark part r i clock) (filter_map (decision_with old.config old.id front e) (heights_up_to n))
  unfolding heights_up_to
  closed_marks closed part r i clock n =
      ap (flat_map (decision_mark part r i clock))
      (sym (none_found (decision_with old.config old.id front e) 1 n (closed_decides closed)))

  opened_all : is_opened e.reply ≡ true → (part : Part) (r i clock : ℕ)
      → flat_map (λ h. mark_if part r i clock h (decision_at old.config old.id (front ++ e ∷ []) h))
      (undecided_heights old.config old.id front)
      ≡ flat_map (decision_mark part r i clock) (decisions_with old.config old.id front e)
  unfolding undecided_heights decisions_with
  opened_all opened part r i clock = opened_marks opened part r i clock max_height

  closed_all : is_opened e.reply ≡ false → (part : Part) (r i clock : ℕ)
      → [] ≡ flat_map (decision_mark part r i clock) (decisions_with old.config old.id front e)
  unfolding decisions_with
  closed_all closed part r i clock = closed_marks closed part r i clock max_height

  -- what is decided after it, at the heights where it may decide, is what it decides
  pub decided_marks : (part : Part) (r i clock : ℕ)
      → flat_map (λ h. mark_if part r i clock h (decision_at old.config old.id (front ++ e ∷ []) h))
      (cond (is_opened e.reply) (undecided_heights old.config old.id front) [])
      ≡ flat_map (decision_mark part r i clock) (decisions_with old.config old.id front e)
  decided_marks part r i clock = by (is_opened e.reply) refl
    where
      by : (b : Bool) → is_opened e.reply ≡ b
          → flat_map (λ h. mark_if part r i clock h (decision_at old.config old.id (front ++ e ∷ []) h))
          (cond b (undecided_heights old.config old.id front) [])
          ≡ flat_map (decision_mark part r i clock) (decisions_with old.config old.id front e)
      by true opened = opened_all opened part r i clock
      by false closed = closed_all closed part r i clock
