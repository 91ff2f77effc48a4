-- What the logs have stays, whichever replica stops.
use Rattle.std.proofs.Common.{◌≡◌, ℕ, zero, suc, ◌+◌, ◌≤◌, Bool, true, false, cond, inl, inr, List, [], ◌∷◌, ◌++◌, length, map, take, drop, refl, sym, ap, subst, ◌∙◌, append_assoc, arith}
use Rattle.std.specs.Prelude.{nat_eq, Some, None, Ok, is_some}
use Rattle.std.specs.List.{list_any}
use Rattle.std.proofs.lemmas.Bool.{cases_Bool, eqb-true}
use Rattle.std.proofs.lemmas.List.{append-nil, length-append, take-append-drop, take-append-le, take-take}
use Rattle.ledger_model.specs.declared.config.Config.{Config}
use Rattle.ledger_model.specs.declared.event.Event.{Event}
use Rattle.ledger_model.specs.declared.event.Event.TheVariants as event
use Rattle.ledger_model.specs.declared.history.Entry.{Entry}
use Rattle.ledger_model.specs.declared.history.History.{History}
use Rattle.ledger_model.specs.declared.reply.Reply.{Reply}
use Rattle.ledger_model.specs.declared.reply.Reply.TheVariants as reply
use Rattle.ledger_model.specs.declared.statement.SignedStatement.{SignedStatement}
use Rattle.ledger_model.specs.declared.statement.Statement.{Statement}
use Rattle.ledger_model.specs.declared.statement.Statement.TheVariants as statement
use Rattle.ledger_model.specs.Groups.{Backed, history_of, is_correct, log_if, log_in}
use Rattle.ledger_model.specs.Logs.{height_of, log_of}
use Rattle.ledger_model.specs.Notes.{Has, Note, OwnStatement, signer_of}
use Rattle.ledger_model.specs.Meanings.{Meanings}
use Rattle.ledger_model.specs.Rules.{Ring}
use Rattle.ledger_model.specs.Timelines.{Added, entries_at, AcceptsUnforged, UnforgedFrom}
use Rattle.ledger_model.specs.Worlds.{IsUnforged}
use Rattle.ledger_model.proofs.Lists.{has_left}
use Rattle.ledger_model.proofs.Staying.{grown, log_after-append}
use Rattle.ledger_laws.proofs.Backing.{entries_at-append}
use Rattle.restart_laws.specs.Restarts.{LoggedStep, Adds, Logs, Restarts, AcceptsLogged, RunsWithRestarts, kept_of, logs_at, no_logs, with_log}
use Rattle.restart_laws.proofs.Kept.{HaveSame, more_same, other_more, others_differ}

-- histories of the correct replicas with these entries
abbrev histories_with : List ℕ → (ℕ → List Entry) → List History
histories_with correct f = map (λ r. record { replica = r; entries = f r }) correct

history_with : (correct : List ℕ) (f : ℕ → List Entry) (r : ℕ)
    → history_of (histories_with correct f) r ≡ cond (list_any (λ x. nat_eq x r) correct) (Some (record { replica = r; entries = f r })) None
history_with [] f r = refl
history_with (x ∷ xs) f r =
    elim (cases_Bool (nat_eq x r)) [
      | inl same ↦ let is : x ≡ r = eqb-true x r same in simp same (ap (λ y. Some (record { replica = y; entries = f y })) is)
      | inr other ↦ simp other (history_with xs f r)
    ]

-- what is made stays made where entries are added
note_stays : (config : Config) (id h : ℕ) (xs ys : List Entry) (n : Note) → Has (log_of config id h xs) n → Has (log_of config id h (xs ++ ys)) n
unfolding log_of
note_stays config id h xs ys n has =
    let more = grown config id h (log_of config id h xs) ys in
    subst (λ l. Has l n) (sym (log_after-append config id h [] xs ys ∙ more.1.0)) (has_left (log_of config id h xs) more.0 n has)

-- each of these lists of entries is the other one, or longer
abbrev Grow : (ℕ → List Entry) → (ℕ → List Entry) → Type 0
Grow f g = (r : ℕ) → (more : List Entry) × (g r ≡ f r ++ more)

module _ (config : Config) (ring : Ring) (correct : List ℕ) where
  backed_more : (f g : ℕ → List Entry) (s : Statement) → Grow f g → Backed config (histories_with correct f) s → Backed config (histories_with correct g) s
  backed_more f g s grow backed = λ is.
      by (list_any (λ x. nat_eq x (signer_of s)) correct) refl is
    where
      by : (b : Bool) → list_any (λ x. nat_eq x (signer_of s)) correct ≡ b → is_correct (histories_with correct g) (signer_of s) ≡ true
          → (c : ℕ) × Has (log_in config (histories_with correct g) (height_of s) (signer_of s)) (OwnStatement c s)
      by false none is =
          let no : is_correct (histories_with correct g) (signer_of s) ≡ false =
          ap is_some (history_with correct g (signer_of s) ∙ ap (λ b. cond b (Some (record { replica = signer_of s; entries = g (signer_of s) })) None) none) in
          absurd (let bad = sym no ∙ is in cc)
      by true some is =
          let q : ℕ = signer_of s in
          let h : ℕ = height_of s in
          let first : history_of (histories_with correct f) q ≡ Some (record { replica = q; entries = f q }) =
          history_with correct f q ∙ ap (λ b. cond b (Some (record { replica = q; entries = f q })) None) some in
          let second : history_of (histories_with correct g) q ≡ Some (record { replica = q; entries = g q }) =
          history_with correct g q ∙ ap (λ b. cond b (Some (record { replica = q; entries = g q })) None) some in
          let made = backed (ap is_some first) in
          let more = grow q in (
            made.0,
            subst (λ l. Has l (OwnStatement made.0 s)) (sym (ap (log_if config h q) second ∙ ap (log_of config q h) more.1))
                (note_stays config q h (f q) more.0 (OwnStatement made.0 s)
                (subst (λ l. Has l (OwnStatement made.0 s)) (ap (log_if config h q) first) made.1)),
          )

  unforged_grown : (f g : ℕ → List Entry) (s : SignedStatement) → Grow f g → IsUnforged config ring (histories_with correct f) s
      → IsUnforged config ring (histories_with correct g) s
  unforged_grown f g s grow is = record {
    own = λ signed. backed_more f g s.statement grow (is.own signed);
    reports = λ l p same has signed. backed_more f g (statement.Report p.report) grow (is.reports l p same has signed);
  }

  accepts_grown : (f g : ℕ → List Entry) (e : Event) (r : Reply) → Grow f g → AcceptsUnforged config ring (histories_with correct f) e r
      → AcceptsUnforged config ring (histories_with correct g) e r
  accepts_grown f g (event.Deliver bytes) (reply.Delivered (Ok u)) grow accepts = λ s spelled. unforged_grown f g s grow (accepts s spelled)
  accepts_grown f g e r grow accepts = tt

  -- each of these was accepted as logs with these numbers of entries had it, after the ones before it
  unfoldable WereLogged : (ℕ → ℕ) → List Added → List Added → Type 0
  WereLogged logged front [] = Unit {0}
  WereLogged logged front (a ∷ more) =
      AcceptsUnforged config ring (logs_at correct logged front) a.entry.event a.entry.reply × WereLogged logged (front ++ a ∷ []) more

  -- longer logs have more
  logs_grow : (logged longer : ℕ → ℕ) (front : List Added) → ((x : ℕ) → logged x ≤ longer x)
      → Grow (λ r. take (logged r) (entries_at front r)) (λ r. take (longer r) (entries_at front r))
  logs_grow logged longer front le = λ r.
      let es : List Entry = entries_at front r in (
        drop (logged r) (take (longer r) es),
        sym (take-append-drop (logged r) (take (longer r) es)) ∙ ap (λ l. l ++ drop (logged r) (take (longer r) es)) (take-take (logged r) (longer r) es (le r)),
      )

  longer_logs : (logged longer : ℕ → ℕ) (front more : List Added) → ((x : ℕ) → logged x ≤ longer x) → WereLogged logged front more
      → WereLogged longer front more
  unfolding WereLogged
  longer_logs logged longer front [] le were = tt
  longer_logs logged longer front (a ∷ more) le were = (
    accepts_grown (λ r. take (logged r) (entries_at front r)) (λ r. take (longer r) (entries_at front r)) a.entry.event a.entry.reply
        (logs_grow logged longer front le) (were.0),
    longer_logs logged longer (front ++ a ∷ []) more le (were.1),
  )

  -- whole histories have all that logs have
  unforged_whole : (logged : ℕ → ℕ) (front more : List Added) → WereLogged logged front more → UnforgedFrom config ring correct front more
  unfolding WereLogged UnforgedFrom
  unforged_whole logged front [] were = tt
  unforged_whole logged front (a ∷ more) were = (
    accepts_grown (λ r. take (logged r) (entries_at front r)) (entries_at front) a.entry.event a.entry.reply
        (λ r. (drop (logged r) (entries_at front r), sym (take-append-drop (logged r) (entries_at front r)))) (were.0),
    unforged_whole logged (front ++ a ∷ []) more (were.1),
  )

  -- one more at the end
  logged_more : (logged : ℕ → ℕ) (front now : List Added) (a : Added) → WereLogged logged front now
      → AcceptsUnforged config ring (logs_at correct logged (front ++ now)) a.entry.event a.entry.reply → WereLogged logged front (now ++ a ∷ [])
  unfolding WereLogged
  logged_more logged front [] a were accepts =
      (subst (λ t. AcceptsUnforged config ring (logs_at correct logged t) a.entry.event a.entry.reply) (append-nil front) accepts, tt)
  logged_more logged front (b ∷ now) a were accepts = (
    were.0,
    logged_more logged (front ++ b ∷ []) now a (were.1)
        (subst (λ t. AcceptsUnforged config ring (logs_at correct logged t) a.entry.event a.entry.reply) (sym (append_assoc front (b ∷ []) now)) accepts),
  )

  -- logs with the same entries
  same_logs : (xs ys : List Added) (logged : ℕ → ℕ) → ((x : ℕ) → take (logged x) (entries_at xs x) ≡ take (logged x) (entries_at ys x))
      → (cs : List ℕ) → logs_at cs logged xs ≡ logs_at cs logged ys
  same_logs xs ys logged same [] = refl
  same_logs xs ys logged same (c ∷ cs) =
      ap (λ l. record { replica = c; entries = l } ∷ logs_at cs logged xs) (same c)
      ∙ ap (λ ls. record { replica = c; entries = take (logged c) (entries_at ys c) } ∷ ls) (same_logs xs ys logged same cs)

  -- replica r has the same in its log, which has no more than this
  record LogStays (logged : ℕ → ℕ) (r : ℕ) (xs ys : List Added) : Type 0 where
    others : HaveSame r xs ys
    own : take (logged r) (entries_at xs r) ≡ take (logged r) (entries_at ys r)
    within : logged r ≤ length (entries_at ys r)

  all_same : (logged : ℕ → ℕ) (r : ℕ) (xs ys : List Added) → LogStays logged r xs ys → (x : ℕ)
      → take (logged x) (entries_at xs x) ≡ take (logged x) (entries_at ys x)
  all_same logged r xs ys stays x =
      elim (cases_Bool (nat_eq x r)) [
        | inl is ↦ let same : x ≡ r = eqb-true x r is in subst (λ y. take (logged y) (entries_at xs y) ≡ take (logged y) (entries_at ys y)) (sym same) stays.own
        | inr other ↦ ap (take (logged x)) (stays.others x other)
      ]

  -- an entry more of replica r at one
  entry_dropped : (logged : ℕ → ℕ) (r : ℕ) (xs ys : List Added) (a : Added) → nat_eq a.replica r ≡ true → LogStays logged r xs ys
      → LogStays logged r xs (ys ++ a ∷ [])
  entry_dropped logged r xs ys a is stays =
      let es = entries_at-append ys (a ∷ []) r in
      let within = stays.within in
      record {
        others = λ x differs. other_more xs ys a x (others_differ a.replica r x is differs) (stays.others x differs);
        own = stays.own ∙ sym (ap (take (logged r)) es ∙ take-append-le (logged r) (entries_at ys r) (entries_at (a ∷ []) r) within);
        within = omega (arith, ap length es, length-append (entries_at ys r) (entries_at (a ∷ []) r), within);
      }

  -- an entry more of another replica at both
  entry_beside : (logged : ℕ → ℕ) (r : ℕ) (xs ys : List Added) (a : Added) → nat_eq a.replica r ≡ false → LogStays logged r xs ys
      → LogStays logged r (xs ++ a ∷ []) (ys ++ a ∷ [])
  entry_beside logged r xs ys a differs stays = record {
    others = λ x other. more_same xs ys a x (stays.others x other);
    own = ap (take (logged r)) (none xs) ∙ stays.own ∙ sym (ap (take (logged r)) (none ys));
    within = subst (λ es. logged r ≤ length es) (sym (none ys)) stays.within;
  }
    where
      none : (zs : List Added) → entries_at (zs ++ a ∷ []) r ≡ entries_at zs r
      none zs = entries_at-append zs (a ∷ []) r ∙ ap (λ b. entries_at zs r ++ (cond b (a.entry ∷ []) [] ++ [])) differs
          ∙ append-nil (entries_at zs r)

  -- without any further entry of replica r
  logged_without : (logged : ℕ → ℕ) (r : ℕ) (xs ys more : List Added) → LogStays logged r xs ys → WereLogged logged ys more
      → WereLogged logged xs (kept_of r zero more)
  unfolding WereLogged kept_of
  logged_without logged r xs ys [] stays were = tt
  logged_without logged r xs ys (a ∷ more) stays were =
      elim (cases_Bool (nat_eq a.replica r)) [
        | inl is ↦ simp is (logged_without logged r xs (ys ++ a ∷ []) more (entry_dropped logged r xs ys a is stays) (were.1))
        | inr differs ↦ simp differs (
          subst (λ hs. AcceptsUnforged config ring hs a.entry.event a.entry.reply) (sym (same_logs xs ys logged (all_same logged r xs ys stays) correct))
              (were.0),
          logged_without logged r (xs ++ a ∷ []) (ys ++ a ∷ []) more (entry_beside logged r xs ys a differs stays) (were.1),
        )
      ]

  -- how many entries of replica r there are with one more
  counted : (ys : List Added) (a : Added) (r : ℕ)
      → length (entries_at (ys ++ a ∷ []) r) ≡ length (entries_at ys r) + cond (nat_eq a.replica r) 1 0
  counted ys a r =
      ap length (entries_at-append ys (a ∷ []) r) ∙ length-append (entries_at ys r) (entries_at (a ∷ []) r)
      ∙ ap (λ n. length (entries_at ys r) + n) (one (nat_eq a.replica r))
    where
      one : (b : Bool) → length (cond b (a.entry ∷ []) [] ++ []) ≡ cond b 1 0
      one true = refl
      one false = refl

  room : (b : Bool) (log kept old new : ℕ) → new ≡ old + cond b 1 0 → log ≤ suc kept + old → log ≤ cond b kept (suc kept) + new
  room true log kept old new is le = omega (arith, is, le)
  room false log kept old new is le = omega (arith, is, le)

  -- with the first ones of replica r alone, which are all that its log has, or more
  logged_kept : (logged : ℕ → ℕ) (r kept : ℕ) (xs ys more : List Added) → ((x : ℕ) → entries_at xs x ≡ entries_at ys x)
      → logged r ≤ kept + length (entries_at ys r) → WereLogged logged ys more → WereLogged logged xs (kept_of r kept more)
  unfolding WereLogged kept_of
  logged_kept logged r zero xs ys more same le were =
      logged_without logged r xs ys more
      (record { others = λ x other. same x; own = ap (take (logged r)) (same r); within = omega (arith, le) }) were
  logged_kept logged r (suc kept) xs ys [] same le were = tt
  logged_kept logged r (suc kept) xs ys (a ∷ more) same le were = (
    subst (λ hs. AcceptsUnforged config ring hs a.entry.event a.entry.reply)
        (sym (same_logs xs ys logged (λ x. ap (take (logged x)) (same x)) correct)) (were.0),
    logged_kept logged r (cond (nat_eq a.replica r) kept (suc kept)) (xs ++ a ∷ []) (ys ++ a ∷ []) more (λ x. more_same xs ys a x (same x))
        (room (nat_eq a.replica r) (logged r) kept (length (entries_at ys r)) (length (entries_at (ys ++ a ∷ []) r)) (counted ys a r) le) (were.1),
  )

  log_grows : (logged : ℕ → ℕ) (r count : ℕ) → logged r ≤ count → (x : ℕ) → logged x ≤ with_log logged r count x
  log_grows logged r count le x =
      elim (cases_Bool (nat_eq x r)) [
        | inl is ↦ simp is (subst (λ y. logged y ≤ count) (sym (eqb-true x r is)) le)
        | inr other ↦ simp other (omega arith)
      ]

  -- nothing that was accepted is forged, by what the replicas have in the end
  unforged_left : (meaning : Meanings) (logged : ℕ → ℕ) (now : List Added) (steps : List LoggedStep) (timeline : List Added)
      → WereLogged logged [] now → RunsWithRestarts meaning config ring correct logged now steps timeline
      → AcceptsLogged config ring correct logged now steps → UnforgedFrom config ring correct [] timeline
  unfolding RunsWithRestarts AcceptsLogged
  unforged_left meaning logged now [] timeline were runs logs =
      subst (UnforgedFrom config ring correct []) (sym runs) (unforged_whole logged [] now were)
  unforged_left meaning logged now (Adds a ∷ steps) timeline were runs logs =
      unforged_left meaning logged (now ++ a ∷ []) steps timeline (logged_more logged [] now a were (logs.0)) (runs.2) (logs.1)
  unforged_left meaning logged now (Logs r count ∷ steps) timeline were runs logs =
      unforged_left meaning (with_log logged r count) now steps timeline
      (longer_logs logged (with_log logged r count) [] now (log_grows logged r count (runs.0)) were) (runs.2) logs
  unforged_left meaning logged now (Restarts r kept ∷ steps) timeline were runs logs =
      unforged_left meaning logged (kept_of r kept now) steps timeline
      (logged_kept logged r kept [] [] now (λ x. refl) (omega (arith, runs.0)) were) (runs.1) logs

  pub unforged_from_start : (meaning : Meanings) (steps : List LoggedStep) (timeline : List Added)
      → RunsWithRestarts meaning config ring correct no_logs [] steps timeline
      → AcceptsLogged config ring correct no_logs [] steps → UnforgedFrom config ring correct [] timeline
  unfolding WereLogged
  unforged_from_start meaning steps timeline runs logs = unforged_left meaning no_logs [] steps timeline tt runs logs
