-- What the frames of a round end say was made was made.
use Rattle.std.proofs.Common.{◌≡◌, ◌⊎◌, ℕ, ◌<◌, inl, inr, Bool, true, false, List, [], ◌∷◌, ◌++◌, refl, sym, ap, subst, ◌∙◌, arith, eq-eqb}
use Rattle.std.proofs.Common.{append-nil}
use Rattle.std.specs.Prelude.{nat_eq, ◌==◌, map, Some, None}
use Rattle.std.specs.List.{AllByRecursion}
use Rattle.std.proofs.lemmas.Bool.{cases_Bool, ne_eqb}
use Rattle.ledger_model.specs.declared.config.Config.{Config}
use Rattle.ledger_model.specs.declared.reply.Sent.{Sent}
use Rattle.ledger_model.specs.declared.statement.SignedStatement.{SignedStatement}
use Rattle.ledger_model.specs.Rounds.{place_of, release_place}
use Rattle.ledger_model.specs.Rules.{Ring}
use Rattle.ledger_model.specs.Lawful.{IsSentRight, addressee_of}
use Rattle.instance.specs.declared.round_statement.RoundStatement.{RoundStatement}
use Rattle.instance.specs.declared.round_statement.RoundStatement.TheVariants as made
use Rattle.instance.specs.Instances.{InstanceView}
use Rattle.instance.specs.Plans.{opened_effects, own_statement_sent}
use Rattle.instance.proofs.MaySend.{own_if_sent}
use Rattle.height_row.specs.Heights.{AreAscending}
use Rattle.replica_core.specs.RoundEnds.{IsMadeAt, AreMade, sent_own, sent_on, frames_of_height, frames_of_heights}
use Rattle.replica_core.specs.ChosenEnds.{all_mute}
use Rattle.replica_core.specs.ShownEnds.{next_shown, left_next, made_of, made_each, all_unsent, is_some_there, sends_locks_on, made_shown}
use Rattle.replica_core.specs.ShownEnds.{AreShownAlike}
use Rattle.replica_core.proofs.SentHeights.{height_in}
use Rattle.replica_core.proofs.SentFrames.{statements_in, may_make}
use Rattle.replica_core.proofs.AllHeights.{IsSentBy, parts, each_height}
use Rattle.replica_core.proofs.OpenEnds.{own_read, none_on, none_made}

-- ---- where nothing is sent on

-- no height sends locks on
abbrev pub NoneOn : ℕ → List InstanceView → Type 0
NoneOn c rows = AllByRecursion (λ row. (opened_effects row c).sends_on ≡ []) rows

nothing_there : {X : Type 0} (xs : List X) → is_some_there xs ≡ false → xs ≡ []
nothing_there [] h = refl
nothing_there (x ∷ xs) h = cc

pub none_on_each : (c : ℕ) (rows : List InstanceView) → sends_locks_on c rows ≡ false → NoneOn c rows
none_on_each c [] none = tt
none_on_each c (row ∷ rows) none = elim (cases_Bool (is_some_there (opened_effects row c).sends_on)) [
  | inl some ↦ absurd (cc (rw some at none))
  | inr here ↦ (nothing_there (opened_effects row c).sends_on here, none_on_each c rows (rw here at none))
]

-- none does but at place 4
pub none_before : (c : ℕ) (rows : List InstanceView) → nat_eq (place_of c) release_place ≡ false → sends_locks_on c rows ≡ false
none_before c [] early = refl
none_before c (row ∷ rows) early = rw (none_on row c early) (none_before c rows early)

-- ---- the frames show what is made

-- the next statement is of a later height
pub skipped : (h : ℕ) (ss : List SignedStatement) → AllByRecursion (λ s. h < height_in s) ss
    → (next_shown h ss ≡ None) × (left_next h ss ≡ ss)
skipped h [] later = (refl, refl)
skipped h (s ∷ ss) later =
    let other : (height_in s == h) ≡ false = ne_eqb (height_in s) h (λ e. let lt = later.0 in omega (arith, e, lt)) in
    (rw other refl, rw other refl)

module _ (config : Config) (ring : Ring) (c : ℕ) where
  -- what one height sends, where it sends nothing on
  own_only : (row : InstanceView) (m : RoundStatement) (mute : Bool) → IsMadeAt ring mute c row m → (opened_effects row c).sends_on ≡ []
      → statements_in (frames_of_height config c row m) ≡ own_statement_sent m
  own_only row m mute is_made none =
      ap (λ (frames : List (List ℕ)). statements_in (map (sent_own config) (own_statement_sent m) ++ map sent_on frames)) none
      ∙ ap statements_in (append-nil (map (sent_own config) (own_statement_sent m)))
      ∙ own_read config m is_made.frame

  -- what is read of the frames, one height after the other, is what was made
  pub each_shown : (rows : List InstanceView) (ms : List RoundStatement) → AreAscending rows
      → AllByRecursion (IsSentBy config ring false c) rows → NoneOn c rows → AreMade ring false c rows ms
      → made_each (map (λ row. row.height) rows) (statements_in (frames_of_heights config c rows ms)) ≡ ms
  each_shown [] [] ascend sent none is = refl
  each_shown [] (m ∷ ms) ascend sent none is = absurd is
  each_shown (row ∷ rows) [] ascend sent none is = absurd is
  each_shown (row ∷ rows) (m ∷ ms) ascend sent none is =
      subst (λ ss. made_each (row.height ∷ map (λ (r : InstanceView). r.height) rows) ss ≡ m ∷ ms)
      (sym (parts config ring false c row m rows ms ∙ ap (λ ss. ss ++ later) (own_only row m false is.0 none.0)))
      (by m is.0 (each_shown rows ms ascend.1 sent.1 none.1 is.1))
    where
      later : List SignedStatement
      later = statements_in (frames_of_heights config c rows ms)

      above : AllByRecursion (λ s. row.height < height_in s) later
      above = each_height config ring false c (λ n. row.height < n) rows ms ascend.0 sent.1 is.1

      by : (x : RoundStatement) → IsMadeAt ring false c row x → made_each (map (λ row. row.height) rows) later ≡ ms
          → made_each (row.height ∷ map (λ (r : InstanceView). r.height) rows) (own_statement_sent x ++ later) ≡ x ∷ ms
      by made.Mute at rest = (let silent = at.silent in absurd (cc silent))
      by made.Unsent at rest =
          let skips = skipped row.height later above in
          ap (λ o. made_of o ∷ made_each (map (λ (r : InstanceView). r.height) rows) (left_next row.height later)) skips.0
          ∙ ap (λ ss. made.Unsent ∷ made_each (map (λ (r : InstanceView). r.height) rows) ss) skips.1
          ∙ ap (λ xs. made.Unsent ∷ xs) rest
      by (made.Sent f) at rest =
          let here : (height_in f == row.height) ≡ true =
          eq-eqb (height_in f) row.height (own_if_sent row c (Some f.statement) at.may).height in
          rw here (ap (λ xs. made.Sent f ∷ xs) rest)

  -- a mute replica makes nothing
  mute_shown : (rows : List InstanceView) (ms : List RoundStatement) → AreMade ring true c rows ms → all_mute rows ≡ ms
  mute_shown [] [] is = refl
  mute_shown [] (m ∷ ms) is = absurd is
  mute_shown (row ∷ rows) [] is = absurd is
  mute_shown (row ∷ rows) (made.Mute ∷ ms) is = ap (λ xs. made.Mute ∷ xs) (mute_shown rows ms is.1)
  mute_shown (row ∷ rows) (made.Unsent ∷ ms) is = (let silent = is.0.silent in absurd (cc silent))
  mute_shown (row ∷ rows) (made.Sent f ∷ ms) is = (let silent = is.0.silent in absurd (cc silent))

  -- nor does one at place 4
  unsent_shown : (rows : List InstanceView) (ms : List RoundStatement) → nat_eq (place_of c) release_place ≡ true
      → AreMade ring false c rows ms
      → all_unsent rows ≡ ms
  unsent_shown [] [] last is = refl
  unsent_shown [] (m ∷ ms) last is = absurd is
  unsent_shown (row ∷ rows) [] last is = absurd is
  unsent_shown (row ∷ rows) (made.Mute ∷ ms) last is = (let silent = is.0.silent in absurd (cc silent))
  unsent_shown (row ∷ rows) (made.Unsent ∷ ms) last is = ap (λ xs. made.Unsent ∷ xs) (unsent_shown rows ms last is.1)
  unsent_shown (row ∷ rows) (made.Sent f ∷ ms) last is =
      let none = none_made row c last (made.Sent f) (may_make ring false c row (made.Sent f) is.0) in absurd (cc none)

  -- the frames show whatever was made
  pub is_shown : (mute : Bool) (rows : List InstanceView) (ms : List RoundStatement) → AreAscending rows
      → AllByRecursion (IsSentBy config ring mute c) rows → AreMade ring mute c rows ms
      → made_shown mute c rows (statements_in (frames_of_heights config c rows ms)) ≡ ms
  is_shown true rows ms ascend sent is = mute_shown rows ms is
  is_shown false rows ms ascend sent is = elim (cases_Bool (sends_locks_on c rows)) [
    | inl some ↦ rw some (unsent_shown rows ms (last (cases_Bool (nat_eq (place_of c) release_place)) some) is)
    | inr none ↦ rw none (each_shown rows ms ascend sent (none_on_each c rows none) is)
  ]
    where
      last : (nat_eq (place_of c) release_place ≡ true) ⊎ (nat_eq (place_of c) release_place ≡ false) → sends_locks_on c rows ≡ true
          → nat_eq (place_of c) release_place ≡ true
      last (inl four) some = four
      last (inr early) some = (let none = none_before c rows early in absurd (cc (sym some ∙ none)))

-- ---- frames that spell the same

-- frames that are right and spell the same statements have the same addressees
pub shown_alike : (config : Config) (xs ys : List Sent) → AllByRecursion (IsSentRight config) xs → AllByRecursion (IsSentRight config) ys
    → statements_in xs ≡ statements_in ys
    → AreShownAlike xs ys
shown_alike config [] [] right others same = tt
shown_alike config [] (y ∷ ys) right others same = (let some = rw others.0.spelled at same in absurd (cc some))
shown_alike config (x ∷ xs) [] right others same = (let some = rw right.0.spelled at same in absurd (cc some))
shown_alike config (x ∷ xs) (y ∷ ys) right others same =
    let both = rw (right.0.spelled, others.0.spelled) at same in
    let first : right.0.signed ≡ others.0.signed = cc in
    let rest : statements_in xs ≡ statements_in ys = cc in (
      record {
        addressed = right.0.addressed ∙ ap (λ (s : SignedStatement). addressee_of config s.statement) first ∙ sym others.0.addressed;
        signed = right.0.signed;
        one_reads = right.0.spelled;
        other_reads = others.0.spelled ∙ ap (λ (s : SignedStatement). Some s) (sym first);
      },
      shown_alike config xs ys right.1 others.1 rest,
    )
