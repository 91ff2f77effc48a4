-- A replica's floor: what a lawful reply that raises it says, and which heights are then retired.
use Rattle.ledger_model.specs.Meanings.{Meanings}
use Rattle.std.proofs.Common.{◌≡◌, ℕ, ◌+◌, ◌<◌, ◌≤◌, Bool, true, false, ◌||◌, cond, ◌⊎◌, inl, inr, List, [], ◌∷◌, ◌++◌, length, refl}
use Rattle.std.proofs.Common.{sym, ap, subst, ◌∙◌, append_assoc, arith}
use Rattle.std.specs.Prelude.{nat_eq, nat_lt, nat_le, Option, Some, None, Ok}
use Rattle.std.specs.List.{flat_map}
use Rattle.std.proofs.lemmas.List.{append-nil}
use Rattle.std.proofs.lemmas.List.Folds.{list_any-append}
use Rattle.std.proofs.lemmas.Bool.{cases_lt, lt-ltb, le-ltb, ltb-false, leb-false}
use Rattle.ledger_model.specs.declared.config.Config.{Config}
use Rattle.ledger_model.specs.declared.event.Event.{Event}
use Rattle.ledger_model.specs.declared.event.Event.TheVariants as event
use Rattle.ledger_model.specs.declared.reply.Reply.{Reply}
use Rattle.ledger_model.specs.declared.reply.Reply.TheVariants as reply
use Rattle.ledger_model.specs.declared.reply.RetireRefusal.TheVariants as kept
use Rattle.ledger_model.specs.declared.history.Entry.{Entry}
use Rattle.ledger_model.specs.declared.statement.SignedStatement.{SignedStatement}
use Rattle.ledger_model.specs.Values.{Value}
use Rattle.ledger_model.specs.Notes.{Note, Proposed, OwnStatement, Read, Retired, clock_of, retires, is_retired}
use Rattle.ledger_model.specs.Logs.{height_of, if_some, is_read_at_once, made_notes, statements_made, notes_of, log_after, log_of}
use Rattle.ledger_model.specs.Reading.{reading_in}
use Rattle.ledger_model.specs.Pools.{first_fault}
use Rattle.ledger_model.specs.Commits.{commits_of, floor_step, floor_after, floor_of, retire_reply}
use Rattle.ledger_model.specs.Rules.{Ring}
use Rattle.ledger_model.specs.Lawful.{Lawful, FollowsFrom, Follows}
use Rattle.ledger_model.proofs.Steps.{log_of-snoc, follows_snoc}

-- the floor after two lists of entries
pub floor_more : (floor : ℕ) (xs ys : List Entry) → floor_after floor (xs ++ ys) ≡ floor_after (floor_after floor xs) ys
floor_more floor [] ys = refl
floor_more floor (x ∷ xs) ys = floor_more (floor_step floor x.reply) xs ys

-- the floor after one entry more
pub floor_of-snoc : (front : List Entry) (e : Entry) → floor_of (front ++ e ∷ []) ≡ floor_step (floor_of front) e.reply
unfolding floor_of
floor_of-snoc front e = floor_more 1 front (e ∷ [])

-- a new floor is above the old one, and at most one above the committed height
pub record NewFloor (config : Config) (id : ℕ) (front : List Entry) (floor : ℕ) : Type 0 where
  pub above : floor_of front < floor
  pub committed : floor ≤ length (commits_of config id front) + 1

no_fault : (a b : Bool) (f g : ℕ) → Ok g ≡ first_fault ((a, kept.NotCommitted) ∷ (b, kept.NotAbove) ∷ []) f
    → (a ≡ false) × ((b ≡ false) × (g ≡ f))
no_fault true b f g e = cc
no_fault false true f g e = cc
no_fault false false f g e = (refl, (refl, cc))

-- a Retire that is answered with a floor is answered with the one that it asks for, which is a new floor
pub new_floor : (config : Config) (id : ℕ) (front : List Entry) (f g : ℕ) → Ok g ≡ retire_reply config id front f
    → (g ≡ f) × NewFloor config id front g
unfolding retire_reply
new_floor config id front f g e =
    let tests = no_fault (nat_lt (length (commits_of config id front) + 1) f) (nat_le f (floor_of front)) f g e in
    let same : g ≡ f = tests.1.1 in
    let above : floor_of front < f = leb-false f (floor_of front) (tests.1.0) in
    let committed : f ≤ length (commits_of config id front) + 1 =
    ltb-false (length (commits_of config id front) + 1) f (tests.0) in (
      same,
      record { above = omega (arith, same, above); committed = omega (arith, same, committed) },
    )

-- a lawful reply leaves the floor as it was, or gives a new one
pub floor_cases : (meaning : Meanings) (config : Config) (ring : Ring) (id : ℕ) (front : List Entry) (e : Event) (r : Reply)
    → Lawful meaning config ring id front e r
    → (floor_step (floor_of front) r ≡ floor_of front) ⊎ NewFloor config id front (floor_step (floor_of front) r)
floor_cases meaning config ring id front (event.Retire f) (reply.Retired (Ok g)) lawful = inr ((new_floor config id front f g lawful).1)
floor_cases meaning config ring id front (event.Submit x) (reply.Retired (Ok g)) lawful = absurd lawful
floor_cases meaning config ring id front (event.Propose x) (reply.Retired (Ok g)) lawful = absurd lawful
floor_cases meaning config ring id front (event.Deliver x) (reply.Retired (Ok g)) lawful = absurd lawful
floor_cases meaning config ring id front event.RoundEnd (reply.Retired (Ok g)) lawful = absurd lawful
floor_cases meaning config ring id front event.Execute (reply.Retired (Ok g)) lawful = absurd lawful
floor_cases meaning config ring id front (event.Query x y) (reply.Retired (Ok g)) lawful = absurd lawful
floor_cases meaning config ring id front e r lawful = inl refl

-- the reply raises the floor above the height
abbrev pub raises_above : ℕ → Reply → Bool
raises_above h (reply.Retired (Ok floor)) = nat_lt h floor
raises_above h _ = false

pub is_retired-append : (xs ys : List Note) → is_retired (xs ++ ys) ≡ (is_retired xs || is_retired ys)
is_retired-append xs ys = list_any-append retires xs ys

proposed_keeps : (b : Bool) (v : Value) → is_retired (cond b (Proposed v ∷ []) []) ≡ false
proposed_keeps true v = refl
proposed_keeps false v = refl

read_keeps : (b : Bool) (c : ℕ) (s : SignedStatement) → is_retired (cond b (Read c s ∷ []) []) ≡ false
read_keeps true c s = refl
read_keeps false c s = refl

delivered_keeps : (c h : ℕ) (o : Option SignedStatement)
    → is_retired (if_some o (λ s. cond (nat_eq (height_of s.statement) h) (Read c s ∷ []) [])) ≡ false
delivered_keeps c h None = refl
delivered_keeps c h (Some s) = read_keeps (nat_eq (height_of s.statement) h) c s

round_keeps : (log : List Note) (c : ℕ) (ss : List SignedStatement) → is_retired (flat_map (made_notes log c) ss) ≡ false
round_keeps log c [] = refl
round_keeps log c (s ∷ ss) = made (is_read_at_once log s.statement) (flat_map (made_notes log c) ss) (round_keeps log c ss)
  where
    made : (b : Bool) (rest : List Note) → is_retired rest ≡ false
        → is_retired ((OwnStatement c s.statement ∷ cond b (Read c s ∷ []) []) ++ rest) ≡ false
    made true rest e = e
    made false rest e = e

retired_if : (b : Bool) (f : ℕ) → is_retired (cond b (Retired f ∷ []) []) ≡ b
retired_if true f = refl
retired_if false f = refl

module _ (meaning : Meanings) (config : Config) (ring : Ring) (id h : ℕ) where
  -- the notes of a lawful entry retire the height if its reply raises the floor above the height
  notes_retire : (front : List Entry) (log : List Note) (e : Event) (r : Reply) → Lawful meaning config ring id front e r
      → is_retired (notes_of config id h log e r) ≡ raises_above h r
  unfolding notes_of
  notes_retire front log (event.Retire f) (reply.Retired (Ok g)) lawful = retired_if (nat_lt h g) g
  notes_retire front log (event.Submit x) (reply.Retired (Ok g)) lawful = absurd lawful
  notes_retire front log (event.Propose x) (reply.Retired (Ok g)) lawful = absurd lawful
  notes_retire front log (event.Deliver x) (reply.Retired (Ok g)) lawful = absurd lawful
  notes_retire front log event.RoundEnd (reply.Retired (Ok g)) lawful = absurd lawful
  notes_retire front log event.Execute (reply.Retired (Ok g)) lawful = absurd lawful
  notes_retire front log (event.Query x y) (reply.Retired (Ok g)) lawful = absurd lawful
  notes_retire front log (event.Propose n) (reply.Proposed (Ok v)) lawful = proposed_keeps (nat_eq n h) v
  notes_retire front log (event.Deliver bytes) (reply.Delivered (Ok u)) lawful = delivered_keeps (clock_of log) h
      (reading_in config.frames bytes)
  notes_retire front log event.RoundEnd (reply.RoundEnded (Ok ended)) lawful =
      round_keeps log (clock_of log + 1) (statements_made config id h log (clock_of log + 1) ended)
  notes_retire front log e r lawful = refl

  -- the height is below the new floor if it was below the old one, or if the reply raises the floor above it
  below_step : (front : List Entry) (e : Event) (r : Reply) → Lawful meaning config ring id front e r
      → nat_lt h (floor_step (floor_of front) r) ≡ (nat_lt h (floor_of front) || raises_above h r)
  below_step front e r lawful = after r (floor_cases meaning config ring id front e r lawful)
    where
      or_nothing : (b : Bool) → b ≡ (b || false)
      or_nothing true = refl
      or_nothing false = refl

      or_twice : (a b : Bool) → a ≡ b → a ≡ (b || a)
      or_twice true true e = refl
      or_twice false false e = refl
      or_twice true false e = cc
      or_twice false true e = cc

      after : (r : Reply) → (floor_step (floor_of front) r ≡ floor_of front) ⊎ NewFloor config id front (floor_step (floor_of front) r)
          → nat_lt h (floor_step (floor_of front) r) ≡ (nat_lt h (floor_of front) || raises_above h r)
      after (reply.Retired (Ok g)) (inl same) = or_twice (nat_lt h g) (nat_lt h (floor_of front)) (ap (nat_lt h) same)
      after (reply.Retired (Ok g)) (inr floor) = elim (cases_lt h (floor_of front)) [
        | inl below ↦ simp (lt-ltb h (floor_of front) below) (lt-ltb h g (omega (arith, floor.above, below)))
        | inr above ↦ simp (le-ltb h (floor_of front) above)
      ]
      after r cases = or_nothing (nat_lt h (floor_of front))

  retired_step : (front : List Entry) (e : Entry) → Lawful meaning config ring id front e.event e.reply
      → is_retired (log_of config id h front) ≡ nat_lt h (floor_of front)
      → is_retired (log_of config id h (front ++ e ∷ [])) ≡ nat_lt h (floor_of (front ++ e ∷ []))
  unfolding log_of
  retired_step front e lawful is =
      let log : List Note = log_after config id h [] front in
      let notes = notes_retire front log (e.event) (e.reply) lawful in
      ap is_retired (log_of-snoc meaning config ring id h [] front e)
      ∙ is_retired-append log (notes_of config id h log e.event e.reply)
      ∙ ap (λ b. b || is_retired (notes_of config id h log e.event e.reply)) is
      ∙ ap (λ b. nat_lt h (floor_of front) || b) notes
      ∙ sym (below_step front (e.event) (e.reply) lawful)
      ∙ ap (nat_lt h) (sym (floor_of-snoc front e))

-- what holds of no entry, and of one lawful entry more, holds of a lawful history
pub each_entry : (meaning : Meanings) (config : Config) (ring : Ring) (id : ℕ) (P : List Entry → Type 0) → P []
    → ((front : List Entry) (e : Entry) → Follows meaning config ring id (front ++ e ∷ []) → Follows meaning config ring id front
    → Lawful meaning config ring id front e.event e.reply → P front → P (front ++ e ∷ []))
    → (entries : List Entry) → Follows meaning config ring id entries → P entries
unfolding Follows FollowsFrom
each_entry meaning config ring id P none more entries follows = from [] entries tt none follows
  where
    from : (front es : List Entry) → Follows meaning config ring id front → P front → FollowsFrom meaning config ring id front es
        → P (front ++ es)
    from front [] front_follows here follows = subst P (sym (append-nil front)) here
    from front (e ∷ es) front_follows here follows =
        let next = follows_snoc meaning config ring id [] front e front_follows (follows.0) in
        subst P (append_assoc front (e ∷ []) es)
        (from (front ++ e ∷ []) es next (more front e next front_follows (follows.0) here) (follows.1))

-- exactly the heights below the floor are retired
pub retired_below : (meaning : Meanings) (config : Config) (ring : Ring) (id h : ℕ) → 1 ≤ h → (entries : List Entry)
    → Follows meaning config ring id entries
    → is_retired (log_of config id h entries) ≡ nat_lt h (floor_of entries)
unfolding log_of log_after floor_of
retired_below meaning config ring id h some entries follows =
    each_entry meaning config ring id (λ es. is_retired (log_of config id h es) ≡ nat_lt h (floor_of es)) (sym (le-ltb h 1 some))
    (λ front e next before lawful is. retired_step meaning config ring id h front e lawful is) entries follows
