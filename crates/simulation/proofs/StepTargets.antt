-- Which replica a step went to: an entry is added at the replica that the step addresses, which is correct.
use Rattle.ledger_model.specs.Meanings.{Meanings}
use Rattle.std.proofs.Common.{◌≡◌, inl, inr, ℕ, Bool, true, false, List, [], length, refl, sym, ap}
use Rattle.std.specs.Prelude.{Option, Some, None, Result, Ok, Err, is_some, nat_lt, nat_le, ◌&&◌, slice_get, MatchBool}
use Rattle.ledger_model.specs.Limits.{max_history_len}
use Rattle.ledger_model.specs.declared.config.Config.{Config}
use Rattle.ledger_model.specs.declared.event.Event.{Event}
use Rattle.ledger_model.specs.declared.history.History.{History}
use Rattle.ledger_model.specs.declared.world.WorldStep.{WorldStep}
use Rattle.ledger_model.specs.declared.world.WorldStep.TheVariants as step
use Rattle.ledger_model.specs.declared.world.WorldReply.TheVariants as answer
use Rattle.ledger_model.specs.declared.world.WorldRefusal.{WorldRefusal}
use Rattle.ledger_model.specs.declared.world.WorldRefusal.TheVariants as refused
use Rattle.ledger_model.specs.Groups.{history_of, is_correct}
use Rattle.ledger_model.specs.Rules.{Ring}
use Rattle.ledger_model.specs.Worlds.{World, entries_in, frames_sent, asks, passes, event_of, StepsBy, Adds, Refuses}
use Rattle.simulation.specs.Playing.{target}

-- the event was at the replica
asked_at : (meaning : Meanings) (config : Config) (ring : Ring) (w new : World) (asked : Result (ℕ × Event) WorldRefusal) (r i : ℕ)
    → StepsBy meaning config ring w asked (answer.Done r i) new → (e : Event) × (asked ≡ Ok (r, e))
asked_at meaning config ring w new (Err f) r i steps = absurd (let no = steps.0 in cc)
asked_at meaning config ring w new (Ok (q, e)) r i steps = in_room (nat_le max_history_len (length (entries_in w q))) steps
  where
    in_room : (full : Bool) → MatchBool full (Refuses w refused.HistoryFull (answer.Done r i) new)
        (Adds meaning config ring w q e (answer.Done r i) new) → (e' : Event)
        × (◌≡◌ {A = Result (ℕ × Event) WorldRefusal} (Ok (q, e)) (Ok (r, e')))
    in_room true refuses = absurd (let no = refuses.0 in cc)
    in_room false (inl (given, lawful, is, added)) = (e, (let same = is in cc))
    in_room false (inr refuses) = absurd (let no = refuses.0 in cc)

-- what is asked, out of its `Ok`
pair : {x y : ℕ × Event} → ◌≡◌ {A = Result (ℕ × Event) WorldRefusal} (Ok x) (Ok y) → x ≡ y
pair is = cc

-- a step that names one replica
one_named : (config : Config) (w : World) (q r : ℕ) (e found : Event) → asks config w q e ≡ Ok (r, found)
    → (r ≡ q) × (is_correct w.histories q ≡ true)
one_named config w q r e found is = by (nat_lt q config.replicas) (is_correct w.histories q) refl refl is
  where
    by : (below correct : Bool) → nat_lt q config.replicas ≡ below → is_correct w.histories q ≡ correct → asks config w q e ≡ Ok (r, found)
        → (r ≡ q) × (is_correct w.histories q ≡ true)
    by false correct b c is = absurd (let no = rw b at is in cc)
    by true false b c is = absurd (let no = rw (b, c) at is in cc)
    by true true b c is = (sym (ap (λ (x : ℕ × Event). x.0) (pair (rw (b, c) at is))), c)

-- a step that names two
two_named : (config : Config) (w : World) (from index to r : ℕ) (found : Event) → passes config w from index to ≡ Ok (r, found)
    → (r ≡ to) × (is_correct w.histories to ≡ true)
two_named config w from index to r found is =
    by (nat_lt from config.replicas && nat_lt to config.replicas) (is_correct w.histories from) (is_correct w.histories to)
    (slice_get (frames_sent (entries_in w from)) index) refl refl refl refl is
  where
    by : (below first second : Bool) (frame : Option (List ℕ)) → (nat_lt from config.replicas && nat_lt to config.replicas) ≡ below
        → is_correct w.histories from ≡ first
        → is_correct w.histories to ≡ second → slice_get (frames_sent (entries_in w from)) index ≡ frame
        → passes config w from index to ≡ Ok (r, found) → (r ≡ to) × (is_correct w.histories to ≡ true)
    by false first second frame b f s g is = absurd (let no = rw b at is in cc)
    by true false second frame b f s g is = absurd (let no = rw (b, f) at is in cc)
    by true true false frame b f s g is = absurd (let no = rw (b, f, s) at is in cc)
    by true true true None b f s g is = absurd (let no = rw (b, f, s, g) at is in cc)
    by true true true (Some bytes) b f s g is = (sym (ap (λ (x : ℕ × Event). x.0) (pair (rw (b, f, s, g) at is))), s)

-- an entry is added where the step is for, at a correct replica
pub done_at : (meaning : Meanings) (config : Config) (ring : Ring) (w new : World) (s : WorldStep) (r i : ℕ)
    → StepsBy meaning config ring w (event_of config w s) (answer.Done r i) new → (r ≡ target s)
    × (is_correct w.histories (target s) ≡ true)
unfolding event_of
done_at meaning config ring w new s r i steps = by s (asked_at meaning config ring w new (event_of config w s) r i steps)
  where
    by : (s : WorldStep) → (e : Event) × (event_of config w s ≡ Ok (r, e)) → (r ≡ target s) × (is_correct w.histories (target s) ≡ true)
    by (step.Submit q bytes) found = one_named config w q r _ found.0 found.1
    by (step.Propose q h) found = one_named config w q r _ found.0 found.1
    by (step.RoundEnd q) found = one_named config w q r _ found.0 found.1
    by (step.Execute q) found = one_named config w q r _ found.0 found.1
    by (step.Query q key h) found = one_named config w q r _ found.0 found.1
    by (step.Retire q floor) found = one_named config w q r _ found.0 found.1
    by (step.Pass from index to) found = two_named config w from index to r found.0 found.1
    by (step.Inject to bytes) found = one_named config w to r _ found.0 found.1

-- a replica that is not correct has no entries
pub no_history : (histories : List History) (order : List ℕ) (r : ℕ) → is_correct histories r ≡ false
    → entries_in (record { histories = histories; order = order }) r ≡ []
no_history histories order r none = by (history_of histories r) refl none
  where
    by : (o : Option History) → history_of histories r ≡ o → is_some (history_of histories r) ≡ false
        → entries_in (record { histories = histories; order = order }) r ≡ []
    by None is none = cc
    by (Some m) is none = cc
