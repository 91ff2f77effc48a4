-- A run of a world, as one list of what was added, oldest first.
use Rattle.ledger_model.specs.Meanings.{Meanings}
use Rattle.std.proofs.Common.{◌≡◌, ℕ, zero, suc, ◌+◌, ◌<◌, true, false, cond, inl, inr, ◌&&◌, List, [], ◌∷◌, ◌++◌, length, map, take, drop}
use Rattle.std.proofs.Common.{refl, sym, ap, subst, ◌∙◌, append_assoc, arith}
use Rattle.std.specs.Prelude.{nat_eq, nat_lt, nat_le, Option, Some, None, Result, Ok, Err, slice_get}
use Rattle.std.specs.List.{count_by}
use Rattle.std.specs.Option.{option_map}
use Rattle.std.proofs.Math.Seq.{take-append_seam, take-length}
use Rattle.std.proofs.lemmas.List.{append-nil, take-map, take-append-drop, length-map}
use Rattle.std.proofs.lemmas.List.Recursion.{is_count_by}
use Rattle.std.proofs.lemmas.Option.{slice_get-map}
use Rattle.std.proofs.lemmas.Bool.{cases_Bool, and_parts, eqb-true, eq-eqb}
use Rattle.ledger_model.specs.declared.config.Config.{Config}
use Rattle.ledger_model.specs.declared.event.Event.{Event}
use Rattle.ledger_model.specs.declared.event.Event.TheVariants as event
use Rattle.ledger_model.specs.declared.reply.Reply.{Reply}
use Rattle.ledger_model.specs.declared.reply.Reply.TheVariants as reply
use Rattle.ledger_model.specs.declared.world.WorldStep.{WorldStep}
use Rattle.ledger_model.specs.declared.world.WorldStep.TheVariants as step
use Rattle.ledger_model.specs.declared.world.WorldReply.{WorldReply}
use Rattle.ledger_model.specs.declared.world.WorldRefusal.{WorldRefusal}
use Rattle.ledger_model.specs.declared.world.WorldRefusal.TheVariants as refused
use Rattle.ledger_model.specs.Values.{Value}
use Rattle.ledger_model.specs.Notes.{Has}
use Rattle.ledger_model.specs.Rules.{Ring}
use Rattle.ledger_model.specs.Lawful.{Lawful}
use Rattle.ledger_model.specs.Groups.{is_correct}
use Rattle.ledger_model.specs.Worlds.{World, beginning, entries_in, frames_sent, entry_added, with_entry, asks, passes, event_of, StepsBy}
use Rattle.ledger_model.specs.Worlds.{Runs, cut_to, world_at, IsUnforged, NoForgery, IsLedger, Refines}
use Rattle.ledger_model.specs.Timelines.{Added, entries_at, histories_at, AcceptsUnforged, RunsFrom, UnforgedFrom, AreReplicas}
use Rattle.ledger_model.specs.Timelines.{RefinesLedger}
use Rattle.ledger_model.proofs.Goodness.{match_cases}
use Rattle.ledger_laws.proofs.Backing.{its_history, history_is, same_correct, entries_at-append, refines}
use Rattle.ledger_model.specs.Limits.{max_history_len}

abbrev pub replicas_of : List Added → List ℕ
replicas_of timeline = map (λ (a : Added). a.replica) timeline

-- the world that a timeline leads to
abbrev pub world_of : List ℕ → List Added → World
world_of correct timeline = record { histories = histories_at correct timeline; order = replicas_of timeline }

-- a world with one entry more is that of the timeline with one more
entry_more : (timeline : List Added) (a : Added) (x : ℕ)
    → entry_added a.replica a.entry (its_history timeline x) ≡ its_history (timeline ++ a ∷ []) x
entry_more timeline a x =
    let es = entries_at-append timeline (a ∷ []) x in
    elim (cases_Bool (nat_eq x a.replica)) [
      | inl same ↦
          let other_way : nat_eq a.replica x ≡ true = eq-eqb a.replica x (sym (eqb-true x a.replica same)) in
          let e : entries_at (timeline ++ a ∷ []) x ≡ entries_at timeline x ++ a.entry ∷ [] =
          es ∙ ap (λ b. entries_at timeline x ++ (cond b (a.entry ∷ []) [] ++ [])) other_way in
          simp same (ap (λ l. record { replica = x; entries = l }) (sym e))
      | inr differs ↦
          let other_way : nat_eq a.replica x ≡ false = elim (cases_Bool (nat_eq a.replica x)) [
            | inl is ↦ absurd (let here = eq-eqb x a.replica (sym (eqb-true a.replica x is)) in cc)
            | inr it_does ↦ it_does
          ] in
          let e : entries_at (timeline ++ a ∷ []) x ≡ entries_at timeline x ++ [] =
          es ∙ ap (λ b. entries_at timeline x ++ (cond b (a.entry ∷ []) [] ++ [])) other_way in
          simp differs (ap (λ l. record { replica = x; entries = l }) (sym (e ∙ append-nil (entries_at timeline x))))
    ]

histories_more : (correct : List ℕ) (timeline : List Added) (a : Added)
    → map (entry_added a.replica a.entry) (histories_at correct timeline) ≡ histories_at correct (timeline ++ a ∷ [])
histories_more [] timeline a = refl
histories_more (x ∷ xs) timeline a =
    let first = entry_more timeline a x in
    let rest = histories_more xs timeline a in
    cc

replicas_more : (timeline : List Added) (a : Added) → replicas_of timeline ++ a.replica ∷ [] ≡ replicas_of (timeline ++ a ∷ [])
replicas_more [] a = refl
replicas_more (x ∷ xs) a = ap (λ l. x.replica ∷ l) (replicas_more xs a)

pub world_more : (correct : List ℕ) (timeline : List Added) (a : Added)
    → with_entry (world_of correct timeline) a.replica a.entry ≡ world_of correct (timeline ++ a ∷ [])
world_more correct timeline a =
    let h = histories_more correct timeline a in
    let o = replicas_more timeline a in
    cc

-- the order counts the entries of each replica
abbrev counted : ℕ → List ℕ → ℕ
counted x [] = 0
counted x (r ∷ rs) = cond (nat_eq r x) (1 + counted x rs) (counted x rs)

counted_at : (timeline : List Added) (x : ℕ) → counted x (replicas_of timeline) ≡ length (entries_at timeline x)
counted_at [] x = refl
counted_at (a ∷ timeline) x =
    elim (nat_eq a.replica x) as (λ b. cond b (1 + counted x (replicas_of timeline)) (counted x (replicas_of timeline))
    ≡ length (cond b (a.entry ∷ []) [] ++ entries_at timeline x)) [
      | true ↦ omega (arith, counted_at timeline x)
      | false ↦ counted_at timeline x
    ]

count_at : (timeline : List Added) (x : ℕ) → count_by (λ r. nat_eq r x) (replicas_of timeline) ≡ length (entries_at timeline x)
count_at timeline x = sym (is_count_by (counted x) (λ r. nat_eq r x) refl (λ _ _. refl) (replicas_of timeline)) ∙ counted_at timeline x

entries_cut : (timeline : List Added) (n x : ℕ)
    → take (count_by (λ r. nat_eq r x) (take n (replicas_of timeline))) (entries_at timeline x) ≡ entries_at (take n timeline) x
entries_cut timeline n x =
    let count : count_by (λ r. nat_eq r x) (take n (replicas_of timeline)) ≡ length (entries_at (take n timeline) x) =
    ap (count_by (λ r. nat_eq r x)) (take-map (λ (a : Added). a.replica) n timeline) ∙ count_at (take n timeline) x in
    let parts : entries_at timeline x ≡ entries_at (take n timeline) x ++ entries_at (drop n timeline) x =
    ap (λ t. entries_at t x) (sym (take-append-drop n timeline)) ∙ entries_at-append (take n timeline) (drop n timeline) x in
    ap (λ k. take k (entries_at timeline x)) count
    ∙ ap (take (length (entries_at (take n timeline) x))) parts
    ∙ take-append_seam (entries_at (take n timeline) x) (entries_at (drop n timeline) x)

histories_cut : (correct : List ℕ) (timeline : List Added) (n : ℕ)
    → map (cut_to (take n (replicas_of timeline))) (histories_at correct timeline) ≡ histories_at correct (take n timeline)
histories_cut [] timeline n = refl
histories_cut (x ∷ xs) timeline n =
    let first : cut_to (take n (replicas_of timeline)) (its_history timeline x) ≡ its_history (take n timeline) x =
    ap (λ l. record { replica = x; entries = l }) (entries_cut timeline n x) in
    let rest = histories_cut xs timeline n in
    cc

-- the world as it was is that of the timeline's beginning
pub world_then : (correct : List ℕ) (timeline : List Added) (n : ℕ)
    → world_at (world_of correct timeline) n ≡ world_of correct (take n timeline)
unfolding world_at
world_then correct timeline n =
    let h = histories_cut correct timeline n in
    let o = take-map (λ (a : Added). a.replica) n timeline in
    cc

pub entries_told : (correct : List ℕ) (timeline : List Added) (r : ℕ) → is_correct (histories_at correct timeline) r ≡ true
    → entries_in (world_of correct timeline) r ≡ entries_at timeline r
entries_told correct timeline r is = simp (history_is correct timeline r is)

abbrev named_of : Result (ℕ × Event) WorldRefusal → ℕ
named_of (Ok p) = p.0
named_of (Err f) = 0

-- a step names a correct replica
asked : (config : Config) (w : World) (x r : ℕ) (d e : Event) → asks config w x d ≡ Ok (r, e) → is_correct w.histories r ≡ true
asked config w x r d e ok =
    elim (cases_Bool (nat_lt x config.replicas)) [
      | inr far ↦ absurd (let no = simp far at ok in cc)
      | inl near ↦ elim (cases_Bool (is_correct w.histories x)) [
        | inl is ↦ (let x_is : x ≡ r = ap named_of (simp (near, is) at ok) in ap (is_correct w.histories) (sym x_is) ∙ is)
        | inr liar ↦ absurd (let no = simp (near, liar) at ok in cc)
      ]
    ]

abbrev pub frame_to : ℕ → Option (List ℕ) → Result (ℕ × Event) WorldRefusal
frame_to to None = Err refused.NoSuchFrame
frame_to to (Some bytes) = Ok (to, event.Deliver bytes)

passed : (config : Config) (w : World) (from index to r : ℕ) (e : Event) → passes config w from index to ≡ Ok (r, e)
    → is_correct w.histories r ≡ true
passed config w from index to r e ok =
    elim (cases_Bool (nat_lt from config.replicas && nat_lt to config.replicas)) [
      | inr far ↦ absurd (let no = simp far at ok in cc)
      | inl near ↦ elim (cases_Bool (is_correct w.histories from && is_correct w.histories to)) [
        | inr liar ↦ absurd (let no = simp (near, liar) at ok in cc)
        | inl are ↦ frame (slice_get (frames_sent (entries_in w from)) index)
            ((and_parts (is_correct w.histories from) (is_correct w.histories to) are).1) (simp (near, are) at ok)
      ]
    ]
  where
    frame : (o : Option (List ℕ)) → is_correct w.histories to ≡ true → frame_to to o ≡ Ok (r, e) → is_correct w.histories r ≡ true
    frame None is given = cc
    frame (Some bytes) is given = let to_is : to ≡ r = ap named_of given in ap (is_correct w.histories) (sym to_is) ∙ is

pub names_correct : (config : Config) (w : World) (s : WorldStep) (r : ℕ) (e : Event) → event_of config w s ≡ Ok (r, e)
    → is_correct w.histories r ≡ true
unfolding event_of
names_correct config w (step.Submit x bytes) r e ok = asked config w x r (event.Submit bytes) e ok
names_correct config w (step.Propose x h) r e ok = asked config w x r (event.Propose h) e ok
names_correct config w (step.RoundEnd x) r e ok = asked config w x r event.RoundEnd e ok
names_correct config w (step.Execute x) r e ok = asked config w x r event.Execute e ok
names_correct config w (step.Query x key h) r e ok = asked config w x r (event.Query key h) e ok
names_correct config w (step.Retire x f) r e ok = asked config w x r (event.Retire f) e ok
names_correct config w (step.Pass from index to) r e ok = passed config w from index to r e ok
names_correct config w (step.Inject to bytes) r e ok = asked config w to r (event.Deliver bytes) e ok

pub get_seam : {X : Type 0} → (xs : List X) (y : X) (ys : List X) → slice_get (xs ++ y ∷ ys) (length xs) ≡ Some y
get_seam [] y ys = refl
get_seam (x ∷ xs) y ys = get_seam xs y ys

entries_at-own : (front : List Added) (a : Added) (more : List Added)
    → entries_at (front ++ a ∷ more) a.replica ≡ entries_at front a.replica ++ a.entry ∷ entries_at more a.replica
entries_at-own front a more =
    entries_at-append front (a ∷ more) a.replica
    ∙ ap (λ b. entries_at front a.replica ++ (cond b (a.entry ∷ []) [] ++ entries_at more a.replica)) (eq-eqb a.replica a.replica refl)

-- the n-th that was added
pub record Next (n : ℕ) (timeline : List Added) : Type 0 where
  pub here : Added
  pub rest : List Added
  pub is : timeline ≡ take n timeline ++ here ∷ rest
  pub longer : take (suc n) timeline ≡ take n timeline ++ here ∷ []

pub next_at : (n : ℕ) (timeline : List Added) → n < length timeline → Next n timeline
next_at n [] lt = absurd (omega arith)
next_at zero (x ∷ xs) lt = record { here = x; rest = xs; is = refl; longer = refl }
next_at (suc n) (x ∷ xs) lt =
    let e = next_at n xs (omega arith) in
    record { here = e.here; rest = e.rest; is = ap (λ l. x ∷ l) (e.is); longer = ap (λ l. x ∷ l) (e.longer) }

module _ (meaning : Meanings) (config : Config) (ring : Ring) (correct : List ℕ) where
  -- a step leaves the world, or adds its event as one lawful entry at a correct replica
  data Stepped (timeline : List Added) (s : WorldStep) (new : World) : Type 0 where
    Left : new ≡ world_of correct timeline → Stepped timeline s new
    Grown : (a : Added) → event_of config (world_of correct timeline) s ≡ Ok (a.replica, a.entry.event)
        → is_correct (histories_at correct timeline) a.replica ≡ true
        → Lawful meaning config ring a.replica (entries_at timeline a.replica) a.entry.event a.entry.reply
        → new ≡ world_of correct (timeline ++ a ∷ []) → Stepped timeline s new

  stepped : (timeline : List Added) (s : WorldStep) (o : Result (ℕ × Event) WorldRefusal) (answered : WorldReply) (new : World)
      → event_of config (world_of correct timeline) s ≡ o
      → StepsBy meaning config ring (world_of correct timeline) o answered new → Stepped timeline s new
  stepped timeline s (Err f) answered new is by = Left (by.1)
  stepped timeline s (Ok (r, e)) answered new is by =
      elim (match_cases (nat_le max_history_len (length (entries_in (world_of correct timeline) r))) _ _ by) [
        | inl full ↦ Left (full.1.1)
        | inr room ↦ elim (room.1) [
          | inr none ↦ Left (none.1)
          | inl added ↦
              let a : Added = record { replica = r; entry = record { event = e; reply = added.0 } } in
              let here = names_correct config (world_of correct timeline) s r e is in
              Grown a is here (subst (λ es. Lawful meaning config ring r es e (added.0)) (entries_told correct timeline r here) (added.1))
              (added.3 ∙ world_more correct timeline a)
        ]
      ]

  -- one of the steps is the entry's event at its replica
  abbrev pub IsCaused : List WorldStep → List Added → Added → Type 0
  IsCaused steps front a = (s : WorldStep) × (Has steps s × (event_of config (world_of correct front) s ≡ Ok (a.replica, a.entry.event)))

  -- this holds of each entry
  unfoldable pub AreCaused : List WorldStep → List Added → List Added → Type 0
  AreCaused steps front [] = Unit {0}
  AreCaused steps front (a ∷ more) = IsCaused steps front a × AreCaused steps (front ++ a ∷ []) more

  -- what a run adds
  pub record Extends (steps : List WorldStep) (front : List Added) (new : World) : Type 0 where
    pub more : List Added
    pub runs : RunsFrom meaning config ring correct front more
    pub caused : AreCaused steps front more
    pub is : new ≡ world_of correct (front ++ more)

  told_from : (all : List WorldStep) (front : List Added) (steps : List WorldStep) (answers : List WorldReply) (new : World)
      → ((s : WorldStep) → Has steps s → Has all s)
      → Runs meaning config ring (world_of correct front) steps answers new → Extends all front new
  unfolding Runs RunsFrom AreCaused
  told_from all front [] [] new among runs =
      record { more = []; runs = tt; caused = tt; is = runs ∙ ap (world_of correct) (sym (append-nil front)) }
  told_from all front [] (a ∷ answers) new among runs = absurd runs
  told_from all front (s ∷ steps) [] new among runs = absurd runs
  told_from all front (s ∷ steps) (x ∷ answers) new among runs =
      elim (stepped front s (event_of config (world_of correct front) s) x (runs.0) refl (runs.1)) [
        | Left same ↦ told_from all front steps answers new (λ t has. among t (inr has))
            (subst (λ w. Runs meaning config ring w steps answers new) same (runs.2))
        | Grown a asks is lawful grown ↦
            let rest = told_from all (front ++ a ∷ []) steps answers new (λ t has. among t (inr has))
            (subst (λ w. Runs meaning config ring w steps answers new) grown (runs.2)) in
            record {
              more = a ∷ rest.more;
              runs = (is, lawful, rest.runs);
              caused = ((s, (among s (inl refl), asks)), rest.caused);
              is = rest.is ∙ ap (world_of correct) (append_assoc front (a ∷ []) (rest.more));
            }
      ]

  pub told : (steps : List WorldStep) (answers : List WorldReply) (new : World)
      → Runs meaning config ring (beginning correct) steps answers new
      → Extends steps [] new
  told steps answers new runs = told_from steps [] steps answers new (λ s has. has) runs

  -- where an entry is in the world of its timeline, and that world as it was before the entry
  pub record EntryPlace (front more : List Added) (a : Added) : Type 0 where
    pub then : world_at (world_of correct (front ++ a ∷ more)) (length front) ≡ world_of correct front
    pub order : slice_get (replicas_of (front ++ a ∷ more)) (length front) ≡ Some a.replica
    pub entry : slice_get (entries_in (world_of correct (front ++ a ∷ more)) a.replica)
        (length (entries_in (world_at (world_of correct (front ++ a ∷ more)) (length front)) a.replica)) ≡ Some a.entry

  pub entry_place : (front more : List Added) (a : Added) → is_correct (histories_at correct front) a.replica ≡ true
      → EntryPlace front more a
  entry_place front more a is =
      let n : ℕ = length front in
      let then : world_at (world_of correct (front ++ a ∷ more)) n ≡ world_of correct front =
      world_then correct (front ++ a ∷ more) n ∙ ap (world_of correct) (take-append_seam front (a ∷ more)) in
      let now : entries_in (world_of correct (front ++ a ∷ more)) a.replica ≡ entries_at front a.replica ++ a.entry
      ∷ entries_at more a.replica =
      entries_told correct (front ++ a ∷ more) a.replica (same_correct meaning config ring correct (front ++ a ∷ more) front a.replica ∙ is)
      ∙ entries_at-own front a more in
      let before : entries_in (world_at (world_of correct (front ++ a ∷ more)) n) a.replica ≡ entries_at front a.replica =
      ap (λ w. entries_in w a.replica) then ∙ entries_told correct front a.replica is in
      record {
        then = then;
        order = slice_get-map (λ (y : Added). y.replica) (front ++ a ∷ more) n
            ∙ ap (option_map (λ (y : Added). y.replica)) (get_seam front a more);
        entry =
            ap (λ l. slice_get (entries_in (world_of correct (front ++ a ∷ more)) a.replica) (length l)) before
            ∙ ap (λ l. slice_get l (length (entries_at front a.replica))) now
            ∙ get_seam (entries_at front a.replica) a.entry (entries_at more a.replica);
      }

  -- what was accepted in the world was unforged then
  accepted : (front more : List Added) (a : Added) → is_correct (histories_at correct front) a.replica ≡ true
      → NoForgery config ring (world_of correct (front ++ a ∷ more))
      → (e : Event) (r : Reply) → a.entry ≡ record { event = e; reply = r } → AcceptsUnforged config ring (histories_at correct front) e r
  accepted front more a is none (event.Deliver bytes) (reply.Delivered (Ok u)) same = λ s spelled.
      let at = entry_place front more a is in
      subst (λ w. IsUnforged config ring (w.histories) s) at.then
      (none (length front) a.replica bytes u s at.order (at.entry ∙ ap Some same) spelled)
  accepted front more a is none e r same = tt

  unforged : (front more : List Added) → RunsFrom meaning config ring correct front more
      → NoForgery config ring (world_of correct (front ++ more))
      → UnforgedFrom config ring correct front more
  unfolding RunsFrom UnforgedFrom
  unforged front [] runs none = tt
  unforged front (a ∷ more) runs none = (
    accepted front more a (runs.0) none (a.entry.event) (a.entry.reply) refl,
    unforged (front ++ a ∷ []) more (runs.2)
        (subst (λ t. NoForgery config ring (world_of correct t)) (sym (append_assoc front (a ∷ []) more)) none),
  )

  -- a timeline's ledgers are its world's
  refined : (timeline : List Added) → RefinesLedger meaning config correct timeline → Refines meaning config (world_of correct timeline)
  refined timeline given = record {
    ledger = λ n. (at n).0;
    grows = λ n lt.
        let one : n + 1 ≡ suc n = omega arith in
        let e = next_at n timeline (omega (arith, length-map timeline (λ (a : Added). a.replica))) in
        given.grows (take n timeline) (e.rest) (e.here) ((at n).0) ((at (n + 1)).0) (e.is) ((at n).1)
        (subst (λ t. IsLedger meaning config (histories_at correct t) ((at (n + 1)).0)) (ap (λ k. take k timeline) one ∙ e.longer)
        ((at (n + 1)).1));
    is_ledger = λ n le. subst (λ w. IsLedger meaning config (w.histories) ((at n).0)) (sym (world_then correct timeline n)) ((at n).1);
  }
    where
      at : (n : ℕ) → (ledger : List Value) × IsLedger meaning config (histories_at correct (take n timeline)) ledger
      at n = given.is_ledger (take n timeline) (drop n timeline) (sym (take-append-drop n timeline))

pub runs_refine : (meaning : Meanings) (config : Config) (ring : Ring) (correct : List ℕ) (steps : List WorldStep)
    (answers : List WorldReply) (w : World)
    → AreReplicas config correct → Runs meaning config ring (beginning correct) steps answers w → NoForgery config ring w
    → Refines meaning config w
runs_refine meaning config ring correct steps answers w replicas runs none =
    let t = told meaning config ring correct steps answers w runs in
    subst (Refines meaning config) (sym (t.is))
    (refined meaning config ring correct (t.more)
    (refines meaning config ring correct replicas (t.more) (t.runs)
    (unforged meaning config ring correct [] (t.more) (t.runs) (subst (NoForgery config ring) (t.is) none))))

-- a run that goes on is one run
pub runs_append : (meaning : Meanings) (config : Config) (ring : Ring) (w mid new : World) (steps more : List WorldStep)
    (answers others : List WorldReply)
    → Runs meaning config ring w steps answers mid → Runs meaning config ring mid more others new
    → Runs meaning config ring w (steps ++ more) (answers ++ others) new
unfolding Runs
runs_append meaning config ring w mid new [] more [] others first next = subst (λ v. Runs meaning config ring v more others new) first next
runs_append meaning config ring w mid new [] more (a ∷ answers) others first next = absurd first
runs_append meaning config ring w mid new (s ∷ steps) more [] others first next = absurd first
runs_append meaning config ring w mid new (s ∷ steps) more (a ∷ answers) others first next =
    (first.0, first.1, runs_append meaning config ring (first.0) mid new steps more answers others (first.2) next)

-- after as many entries as there are, the world of a run is as it is now
pub world_now : (meaning : Meanings) (config : Config) (ring : Ring) (correct : List ℕ) (steps : List WorldStep) (answers : List WorldReply)
    (w : World)
    → Runs meaning config ring (beginning correct) steps answers w → world_at w (length w.order) ≡ w
world_now meaning config ring correct steps answers w runs =
    let t = told meaning config ring correct steps answers w runs in
    subst (λ (v : World). world_at v (length v.order) ≡ v) (sym (t.is))
    (world_then correct (t.more) (length (replicas_of (t.more)))
    ∙ ap (world_of correct) (ap (λ n. take n (t.more)) (length-map (t.more) (λ (a : Added). a.replica)) ∙ take-length (t.more)))
