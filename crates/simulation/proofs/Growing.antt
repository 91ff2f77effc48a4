-- Histories only grow: whatever is played, the entries of a replica begin with those that it had.
use Rattle.ledger_model.specs.Meanings.{Meanings}
use Rattle.std.proofs.Common.{◌≡◌, ℕ, inl, inr, Bool, true, false, cond, List, [], ◌∷◌, ◌++◌, map, refl, sym, ap, subst, ◌∙◌}
use Rattle.std.proofs.Common.{append_assoc, append-nil}
use Rattle.std.specs.Prelude.{◌==◌, nat_le, Option, Some, None, option_map, Result, Ok, Err, MatchBool}
use Rattle.ledger_model.specs.Limits.{max_history_len}
use Rattle.ledger_model.specs.declared.config.Config.{Config}
use Rattle.ledger_model.specs.declared.event.Event.{Event}
use Rattle.ledger_model.specs.declared.history.Entry.{Entry}
use Rattle.ledger_model.specs.declared.history.History.{History}
use Rattle.ledger_model.specs.declared.world.WorldRefusal.{WorldRefusal}
use Rattle.ledger_model.specs.declared.world.WorldRefusal.TheVariants as refused
use Rattle.ledger_model.specs.declared.world.WorldReply.{WorldReply}
use Rattle.ledger_model.specs.declared.world.WorldStep.{WorldStep}
use Rattle.ledger_model.specs.Groups.{history_of}
use Rattle.ledger_model.specs.Rules.{Ring}
use Rattle.ledger_model.specs.Worlds.{World, Adds, Refuses, Runs, StepsBy, entries_in, entry_added, event_of, with_entry}

-- each replica's entries in v begin with those in w
abbrev pub GrowsTo : World → World → Type 0
GrowsTo w v = (r : ℕ) → (more : List Entry) × (entries_in v r ≡ entries_in w r ++ more)

same_grows : (w v : World) → v ≡ w → GrowsTo w v
same_grows w v same = subst (GrowsTo w) (sym same) (λ r. ([], sym (append-nil (entries_in w r))))

grows_on : (w v u : World) → GrowsTo w v → GrowsTo v u → GrowsTo w u
grows_on w v u first next r =
    let (more, is) = first r in
    let (others, then) = next r in (more ++ others, then ∙ ap (λ es. es ++ others) is ∙ append_assoc (entries_in w r) more others)

-- ---- one entry

same_replica : (q : ℕ) (e : Entry) (m : History) → (entry_added q e m).replica ≡ m.replica
same_replica q e m = by (m.replica == q)
  where
    by : (b : Bool) → (cond b (record m { entries = m.entries ++ e ∷ [] }) m).replica ≡ m.replica
    by true = refl
    by false = refl

found_added : (q : ℕ) (e : Entry) (r : ℕ) (hs : List History)
    → history_of (map (entry_added q e) hs) r ≡ option_map (entry_added q e) (history_of hs r)
found_added q e r [] = refl
found_added q e r (m ∷ ms) =
    ap (λ k. cond (k == r) (Some (entry_added q e m)) (history_of (map (entry_added q e) ms) r)) (same_replica q e m)
    ∙ by (m.replica == r) (found_added q e r ms)
  where
    by : (b : Bool) → history_of (map (entry_added q e) ms) r ≡ option_map (entry_added q e) (history_of ms r)
        → cond b (Some (entry_added q e m)) (history_of (map (entry_added q e) ms) r)
        ≡ option_map (entry_added q e) (cond b (Some m) (history_of ms r))
    by true rest = refl
    by false rest = rest

more_of : (q : ℕ) (e : Entry) (m : History) → (more : List Entry) × ((entry_added q e m).entries ≡ m.entries ++ more)
more_of q e m = by (m.replica == q)
  where
    by : (b : Bool) → (more : List Entry) × ((cond b (record m { entries = m.entries ++ e ∷ [] }) m).entries ≡ m.entries ++ more)
    by true = (e ∷ [], refl)
    by false = ([], sym (append-nil m.entries))

entry_grows : (w : World) (q : ℕ) (e : Entry) → GrowsTo w (with_entry w q e)
entry_grows w q e r = by (history_of w.histories r) refl
  where
    by : (o : Option History) → history_of w.histories r ≡ o
        → (more : List Entry) × (entries_in (with_entry w q e) r ≡ entries_in w r ++ more)
    by None is =
        let new : history_of (map (entry_added q e) w.histories) r ≡ None =
        found_added q e r w.histories ∙ ap (option_map (entry_added q e)) is in ([], simp (new, is) refl)
    by (Some m) is =
        let new : history_of (map (entry_added q e) w.histories) r ≡ Some (entry_added q e m) =
        found_added q e r w.histories ∙ ap (option_map (entry_added q e)) is in
        let (more, longer) = more_of q e m in (more, simp (new, is) longer)

-- ---- one step, and many

step_grows : (meaning : Meanings) (config : Config) (ring : Ring) (w : World) (x : Result (ℕ × Event) WorldRefusal) (a : WorldReply)
    (v : World)
    → StepsBy meaning config ring w x a v → GrowsTo w v
step_grows meaning config ring w (Err f) a v none = same_grows w v none.1
step_grows meaning config ring w (Ok (r, e)) a v steps = by (nat_le max_history_len _) refused.HistoryFull steps
  where
    added : Adds meaning config ring w r e a v → GrowsTo w v
    added (inl (given, lawful, answered, new)) = subst (GrowsTo w) (sym new) (entry_grows w r _)
    added (inr none) = same_grows w v none.1

    by : (b : Bool) (f : WorldRefusal) → MatchBool b (Refuses w f a v) (Adds meaning config ring w r e a v) → GrowsTo w v
    by true f full = same_grows w v full.1
    by false f adds = added adds

pub runs_grow : (meaning : Meanings) (config : Config) (ring : Ring) (w v : World) (steps : List WorldStep) (answers : List WorldReply)
    → Runs meaning config ring w steps answers v → GrowsTo w v
unfolding Runs
runs_grow meaning config ring w v [] [] run = same_grows w v run
runs_grow meaning config ring w v [] (a ∷ answers) run = absurd run
runs_grow meaning config ring w v (s ∷ steps) [] run = absurd run
runs_grow meaning config ring w v (s ∷ steps) (a ∷ answers) run =
    grows_on w (run.0) v (step_grows meaning config ring w (event_of config w s) a (run.0) (run.1))
    (runs_grow meaning config ring (run.0) v steps answers (run.2))
