-- What is collected of the histories of all replicas, one by one.
use Rattle.ledger_model.specs.Meanings.{Meanings}
use Rattle.std.proofs.Common.{◌≡◌, ◌∙◌, ℕ, suc, ◌+◌, ◌<◌, ◌≤◌, Bool, true, false, cond, inl, inr, List, [], ◌∷◌, ◌++◌, length, take, map, refl}
use Rattle.std.proofs.Common.{sym, ap, subst, arith, append_assoc, append-nil, take_all}
use Rattle.std.specs.Prelude.{nat_lt, Option, Some, None, option_map}
use Rattle.std.proofs.lemmas.Bool.{cases_lt, ltb-true, ltb-false}
use Rattle.std.proofs.lemmas.List.{length-append, map-append}
use Rattle.ledger_model.specs.declared.config.Config.{Config}
use Rattle.ledger_model.specs.declared.history.Entry.{Entry}
use Rattle.ledger_model.specs.declared.history.History.{History}
use Rattle.ledger_model.specs.Audits.{IsFirstBreak}
use Rattle.ledger_model.specs.Groups.{history_of}
use Rattle.ledger_model.specs.Lawful.{Replay, clock_at}
use Rattle.ledger_model.specs.Rules.{Ring}
use Rattle.run_picture.specs.declared.entry_facts.Mark.{Mark}
use Rattle.run_picture.specs.declared.history_break.HistoryBreak.{HistoryBreak}
use Rattle.run_picture.specs.declared.part.Part.{Part}
use Rattle.run_picture.specs.declared.picture.Collected.{Collected}
use Rattle.run_picture.specs.declared.picture.Shown.{Shown}
use Rattle.run_picture.specs.declared.following.ReplayMarks.{ReplayMarks}
use Rattle.run_picture.specs.Breaks.{IsLongestReplay, ShowsReplay, ShowReplays, FindsBreak, break_after}
use Rattle.run_picture.specs.Collected.{AddsHistory, AddsNothing, AddsRow, Collects, IsNothing}
use Rattle.run_picture.specs.Decisions.{decisions_in}
use Rattle.run_picture.specs.Facts.{facts_at}
use Rattle.run_picture.specs.Frames.{frames_of_entry, deliveries_of_entry}
use Rattle.run_picture.specs.Orders.{shown_by, shown_from, shown_if}
use Rattle.run_picture.specs.Pictures.{rounds_in, shown_frames, shown_deliveries, facts_in, shown_decisions, all_retired}
use Rattle.run_picture.specs.Retiring.{retired_in}

-- ---- one row more

none_more : (r : ℕ) → r ≡ r + 0
none_more r = omega arith

one_later : (r n : ℕ) → r + 1 + n ≡ r + suc n
one_later r n = omega arith

shown_by-snoc : {X : Type 0} (shown : ℕ → List Entry → List X) (r : ℕ) (rows : List (Option (List Entry))) (row : Option (List Entry))
    → shown_by shown r (rows ++ row ∷ []) ≡ shown_by shown r rows ++ shown_if (shown (r + length rows)) row
shown_by-snoc shown r [] row = append-nil (shown_if (shown r) row) ∙ ap (λ n. shown_if (shown n) row) (none_more r)
shown_by-snoc shown r (x ∷ xs) row =
    ap (λ l. shown_if (shown r) x ++ l) (shown_by-snoc shown (r + 1) xs row)
    ∙ sym (append_assoc (shown_if (shown r) x) (shown_by shown (r + 1) xs) (shown_if (shown (r + 1 + length xs)) row))
    ∙ ap (λ n. (shown_if (shown r) x ++ shown_by shown (r + 1) xs) ++ shown_if (shown n) row) (one_later r (length xs))

replays-snoc : (meaning : Meanings) (config : Config) (ring : Ring) (histories : List History) (r : ℕ) (rows : List (Option (List Entry)))
    (row : Option (List Entry)) → ShowReplays meaning config ring histories r rows
    → ShowsReplay meaning config ring (r + length rows) (history_of histories (r + length rows)) row
    → ShowReplays meaning config ring histories r (rows ++ row ∷ [])
replays-snoc meaning config ring histories r [] row all next =
    (subst (λ n. ShowsReplay meaning config ring n (history_of histories n) row) (sym (none_more r)) next, tt)
replays-snoc meaning config ring histories r (x ∷ xs) row all next = (
  all.0,
  replays-snoc meaning config ring histories (r + 1) xs row all.1
      (subst (λ n. ShowsReplay meaning config ring n (history_of histories n) row) (sym (one_later r (length xs))) next),
)

-- the list that all rows show, with one row more
list_more : {X : Type 0} (shown : ℕ → List Entry → List X) (rows : List (Option (List Entry))) (row : Option (List Entry)) (n : ℕ)
    (before after : List X) → length rows ≡ n → before ≡ shown_by shown 0 rows → after ≡ before ++ shown_if (shown n) row
    → after ≡ shown_by shown 0 (rows ++ row ∷ [])
list_more shown rows row n before after count was now =
    now ∙ ap (λ l. l ++ shown_if (shown n) row) was
    ∙ ap (λ k. shown_by shown 0 rows ++ shown_if (shown k) row) (at n count)
    ∙ sym (shown_by-snoc shown 0 rows row)
  where
    at : (n : ℕ) → length rows ≡ n → n ≡ 0 + length rows
    at n is = omega (arith, is)

-- ---- where the first history breaks

-- one replica more that has no history, or whose history is a replay
all_more : (meaning : Meanings) (config : Config) (ring : Ring) (histories : List History) (n : ℕ)
    → FindsBreak meaning config ring histories n None
    → ((m : History) → history_of histories n ≡ Some m → Replay meaning config ring n m.entries)
    → FindsBreak meaning config ring histories (n + 1) None
all_more meaning config ring histories n before here r m less at = elim (cases_lt r n) [
  | inl lower ↦ before r m lower at
  | inr other ↦
      (let same : n ≡ r = omega (arith, other, less) in
      subst (λ q. Replay meaning config ring q m.entries) same (here m (ap (history_of histories) same ∙ at)))
]

-- a break stays the first
break_more : (meaning : Meanings) (config : Config) (ring : Ring) (histories : List History) (n : ℕ) (b : HistoryBreak)
    → FindsBreak meaning config ring histories n (Some b) → FindsBreak meaning config ring histories (n + 1) (Some b)
break_more meaning config ring histories n b before = (let low = before.0 in omega (arith, low), before.1)

-- one replica more without a history
without_more : (meaning : Meanings) (config : Config) (ring : Ring) (histories : List History) (n : ℕ) (first : Option HistoryBreak)
    → history_of histories n ≡ None → FindsBreak meaning config ring histories n first
    → FindsBreak meaning config ring histories (n + 1) first
without_more meaning config ring histories n None none before = all_more meaning config ring histories n before
    (λ m at. absurd (cc (sym none ∙ at)))
without_more meaning config ring histories n (Some b) none before = break_more meaning config ring histories n b before

-- one replica more with one
module _ (meaning : Meanings) (config : Config) (ring : Ring) (histories : List History) (n count : ℕ) (m : History)
    (is : history_of histories n ≡ Some m)
    (longest : IsLongestReplay meaning config ring n m.entries count) where
  whole : length m.entries ≤ count → (k : History) → history_of histories n ≡ Some k → Replay meaning config ring n k.entries
  whole all k at =
      let same : m ≡ k = cc (sym is ∙ at) in
      subst (λ (h : History). Replay meaning config ring n h.entries) same
      (subst (Replay meaning config ring n) (take_all count m.entries all) longest.replay)

  broken : count < length m.entries → Replay meaning config ring n (take (count + 1) m.entries) → ⊥
  broken less = elim longest.ends [ inl all ↦ absurd (omega (arith, all, less)) | inr stops ↦ stops ]

  found : (b : Bool) → nat_lt count (length m.entries) ≡ b → FindsBreak meaning config ring histories n None
      → FindsBreak meaning config ring histories (n + 1) (cond b (Some (record { replica = n; entry = count })) None)
  found true less before = (
    omega arith,
    record {
      breaks = record {
        history = m;
        of = is;
        inside = ltb-true count (length m.entries) less;
        before = longest.replay;
        broken = broken (ltb-true count (length m.entries) less);
      };
      least = λ q k lower at. before q k lower at;
    },
  )
  found false none before = all_more meaning config ring histories n before (whole (ltb-false count (length m.entries) none))

  with_more : (first : Option HistoryBreak) → FindsBreak meaning config ring histories n first
      → FindsBreak meaning config ring histories (n + 1) (break_after first n count (length m.entries))
  with_more None before = found (nat_lt count (length m.entries)) refl before
  with_more (Some b) before = break_more meaning config ring histories n b before

-- ---- all replicas, one by one

-- before the first
pub rows_none : (meaning : Meanings) (config : Config) (ring : Ring) (part : Part) (histories : List History) (now : Collected)
    → IsNothing now
    → Collects meaning config ring part histories 0 now
rows_none meaning config ring part histories now none = record {
  rows = [];
  count = refl;
  replays = tt;
  sent = none.sent;
  deliveries = none.deliveries;
  facts = none.facts;
  decisions = none.decisions;
  retired = none.retired;
  rounds = none.rounds;
  breaks = subst (FindsBreak meaning config ring histories 0) (sym none.breaks) (λ r m less at. absurd (omega (arith, less)));
}

-- one replica more
module _ (meaning : Meanings) (config : Config) (ring : Ring) (part : Part) (histories : List History) (n : ℕ) (now next : Collected)
    (before : Collects meaning config ring part histories n now) where
  abbrev longer : Option (List Entry) → List (Option (List Entry))
  longer row = before.rows ++ row ∷ []

  -- each list with the next row
  row_more : (row : Option (List Entry)) → ShowsReplay meaning config ring n (history_of histories n) row
      → next.shown.sent.items ≡ now.shown.sent.items ++ shown_if (shown_from (frames_of_entry part n) 0 0) row
      → next.shown.deliveries.items ≡ now.shown.deliveries.items ++ shown_if (shown_from (deliveries_of_entry part n) 0 0) row
      → next.shown.facts.items ≡ now.shown.facts.items ++ shown_if (shown_from (facts_at part n) 0 0) row
      → next.marks.decisions.items ≡ now.marks.decisions.items ++ shown_if (decisions_in config part n) row
      → next.marks.retired.items ≡ now.marks.retired.items ++ shown_if (retired_in part n) row
      → next.rounds.items ≡ now.rounds.items ++ option_map clock_at row ∷ []
      → FindsBreak meaning config ring histories (n + 1) next.first_break → Collects meaning config ring part histories (n + 1) next
  row_more row shows sent deliveries facts decisions retired rounds breaks = record {
    rows = before.rows ++ row ∷ [];
    count = counted before.rows before.count;
    replays = replays-snoc meaning config ring histories 0 before.rows row before.replays
        (subst (λ k. ShowsReplay meaning config ring k (history_of histories k) row) (at before.rows before.count) shows);
    sent = list_more (λ r. shown_from (frames_of_entry part r) 0 0) before.rows row n now.shown.sent.items next.shown.sent.items before.count
        before.sent sent;
    deliveries = list_more (λ r. shown_from (deliveries_of_entry part r) 0 0) before.rows row n now.shown.deliveries.items
        next.shown.deliveries.items before.count before.deliveries deliveries;
    facts = list_more (λ r. shown_from (facts_at part r) 0 0) before.rows row n now.shown.facts.items next.shown.facts.items before.count
        before.facts facts;
    decisions = list_more (decisions_in config part) before.rows row n now.marks.decisions.items next.marks.decisions.items before.count
        before.decisions decisions;
    retired = list_more (retired_in part) before.rows row n now.marks.retired.items next.marks.retired.items before.count before.retired
        retired;
    rounds = rounds ∙ ap (λ l. l ++ option_map clock_at row ∷ []) before.rounds
        ∙ sym (map-append (option_map clock_at) before.rows (row ∷ []));
    breaks = breaks;
  }
    where
      counted : (rows : List (Option (List Entry))) → length rows ≡ n → length (rows ++ row ∷ []) ≡ n + 1
      counted rows is = omega (arith, is, length-append rows (row ∷ []))

      at : (rows : List (Option (List Entry))) → length rows ≡ n → n ≡ 0 + length rows
      at rows is = omega (arith, is)

  -- the next replica's history, if it was handed in
  pub rows_more : AddsRow meaning config ring part n (history_of histories n) now next
      → Collects meaning config ring part histories (n + 1) next
  rows_more adds = by (history_of histories n) refl adds
    where
      by : (o : Option History) → history_of histories n ≡ o → AddsRow meaning config ring part n o now next
          → Collects meaning config ring part histories (n + 1) next
      by None is none =
          row_more None (subst (λ o. ShowsReplay meaning config ring n o None) (sym is) tt)
          (ap (λ (s : Shown). s.sent.items) none.shown ∙ sym (append-nil now.shown.sent.items))
          (ap (λ (s : Shown). s.deliveries.items) none.shown ∙ sym (append-nil now.shown.deliveries.items))
          (ap (λ (s : Shown). s.facts.items) none.shown ∙ sym (append-nil now.shown.facts.items))
          (ap (λ (s : ReplayMarks). s.decisions.items) none.marks ∙ sym (append-nil now.marks.decisions.items))
          (ap (λ (s : ReplayMarks). s.retired.items) none.marks ∙ sym (append-nil now.marks.retired.items))
          none.rounds
          (subst (FindsBreak meaning config ring histories (n + 1)) (sym none.breaks)
          (without_more meaning config ring histories n now.first_break is before.breaks))
      by (Some m) is all =
          row_more (Some (take all.count m.entries))
          (subst (λ o. ShowsReplay meaning config ring n o (Some (take all.count m.entries))) (sym is)
          (all.count, (all.marks.longest, refl)))
          all.shown.sent all.shown.deliveries all.shown.facts all.marks.decisions all.marks.retired all.rounds
          (subst (FindsBreak meaning config ring histories (n + 1)) (sym all.breaks)
          (with_more meaning config ring histories n all.count m is all.marks.longest now.first_break before.breaks))
