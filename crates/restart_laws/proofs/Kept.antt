-- What stops leave of a run is a run.
use Rattle.ledger_model.specs.Meanings.{Meanings}
use Rattle.std.proofs.Common.{arith, take, length, ◌≤◌, ◌≡◌, ℕ, zero, suc, true, false, cond, inl, inr, List, [], ◌∷◌, ◌++◌, refl, sym, ap, subst, ◌∙◌, append_assoc}
use Rattle.std.specs.Prelude.{nat_eq}
use Rattle.std.proofs.lemmas.Bool.{cases_Bool, eqb-true}
use Rattle.std.proofs.lemmas.List.{length-append, take-append-le, take-take, length-take, append-nil}
use Rattle.ledger_model.specs.declared.config.Config.{Config}
use Rattle.ledger_model.specs.Rules.{Ring}
use Rattle.ledger_model.specs.Lawful.{Lawful}
use Rattle.ledger_model.specs.Groups.{is_correct}
use Rattle.ledger_model.specs.Timelines.{Added, entries_at, histories_at, RunsFrom}
use Rattle.ledger_laws.proofs.Backing.{entries_at-append, same_correct}
use Rattle.restart_laws.specs.Restarts.{LoggedStep, Adds, Logs, Restarts, kept_of, no_logs, RunsWithRestarts, with_log}

-- the entries of each replica but r are the same
abbrev pub HaveSame : ℕ → List Added → List Added → Type 0
HaveSame r xs ys = (x : ℕ) → nat_eq x r ≡ false → entries_at xs x ≡ entries_at ys x

-- one entry more at both
pub more_same : (xs ys : List Added) (a : Added) (x : ℕ) → entries_at xs x ≡ entries_at ys x → entries_at (xs ++ a ∷ []) x ≡ entries_at (ys ++ a ∷ []) x
more_same xs ys a x same =
    entries_at-append xs (a ∷ []) x ∙ ap (λ es. es ++ entries_at (a ∷ []) x) same ∙ sym (entries_at-append ys (a ∷ []) x)

-- an entry of another replica at one
pub other_more : (xs ys : List Added) (a : Added) (x : ℕ) → nat_eq a.replica x ≡ false → entries_at xs x ≡ entries_at ys x
    → entries_at xs x ≡ entries_at (ys ++ a ∷ []) x
other_more xs ys a x other same =
    same ∙ sym (append-nil (entries_at ys x)) ∙ ap (λ b. entries_at ys x ++ (cond b (a.entry ∷ []) [] ++ [])) (sym other)
    ∙ sym (entries_at-append ys (a ∷ []) x)

-- a number that is equal to one isn't the one that differs from it
pub others_differ : (n m x : ℕ) → nat_eq n m ≡ true → nat_eq x m ≡ false → nat_eq n x ≡ false
others_differ n m x is other = elim (cases_Bool (nat_eq n x)) [
  | inl here ↦ absurd (let one = eqb-true n m is in let two = eqb-true n x here in cc)
  | inr not ↦ not
]

module _ (meaning : Meanings) (config : Config) (ring : Ring) (correct : List ℕ) where
  -- what is lawful after one timeline is lawful after another one in which its replica has the same entries
  lawful_at : (xs ys : List Added) (a : Added) → entries_at xs a.replica ≡ entries_at ys a.replica
      → Lawful meaning config ring a.replica (entries_at ys a.replica) a.entry.event a.entry.reply
      → Lawful meaning config ring a.replica (entries_at xs a.replica) a.entry.event a.entry.reply
  lawful_at xs ys a same lawful =
      subst (λ es. Lawful meaning config ring a.replica es a.entry.event a.entry.reply) (sym same) lawful

  -- without any further entry of replica r
  runs_without : (r : ℕ) (xs ys more : List Added) → HaveSame r xs ys → RunsFrom meaning config ring correct ys more
      → RunsFrom meaning config ring correct xs (kept_of r zero more)
  unfolding RunsFrom kept_of
  runs_without r xs ys [] same runs = tt
  runs_without r xs ys (a ∷ more) same runs =
      elim (cases_Bool (nat_eq a.replica r)) [
        | inl is ↦ simp is (runs_without r xs (ys ++ a ∷ []) more
            (λ x differs. other_more xs ys a x (others_differ a.replica r x is differs) (same x differs)) (runs.2))
        | inr differs ↦ simp differs (
          same_correct meaning config ring correct xs ys a.replica ∙ runs.0,
          lawful_at xs ys a (same a.replica differs) (runs.1),
          runs_without r (xs ++ a ∷ []) (ys ++ a ∷ []) more (λ x other. more_same xs ys a x (same x other)) (runs.2),
        )
      ]

  -- with the first ones alone
  runs_kept : (r kept : ℕ) (xs ys more : List Added) → ((x : ℕ) → entries_at xs x ≡ entries_at ys x) → RunsFrom meaning config ring correct ys more
      → RunsFrom meaning config ring correct xs (kept_of r kept more)
  unfolding RunsFrom kept_of
  runs_kept r zero xs ys more same runs = runs_without r xs ys more (λ x other. same x) runs
  runs_kept r (suc kept) xs ys [] same runs = tt
  runs_kept r (suc kept) xs ys (a ∷ more) same runs = (
    same_correct meaning config ring correct xs ys a.replica ∙ runs.0,
    lawful_at xs ys a (same a.replica) (runs.1),
    runs_kept r (cond (nat_eq a.replica r) kept (suc kept)) (xs ++ a ∷ []) (ys ++ a ∷ []) more (λ x. more_same xs ys a x (same x)) (runs.2),
  )

  -- an entry at the end of a run
  runs_more : (front now : List Added) (a : Added) → RunsFrom meaning config ring correct front now
      → is_correct (histories_at correct (front ++ now)) a.replica ≡ true
      → Lawful meaning config ring a.replica (entries_at (front ++ now) a.replica) a.entry.event a.entry.reply
      → RunsFrom meaning config ring correct front (now ++ a ∷ [])
  unfolding RunsFrom
  runs_more front [] a runs is lawful =
      let none = append-nil front in (
        subst (λ t. is_correct (histories_at correct t) a.replica ≡ true) none is,
        subst (λ t. Lawful meaning config ring a.replica (entries_at t a.replica) a.entry.event a.entry.reply) none lawful,
        tt,
      )
  runs_more front (b ∷ now) a runs is lawful =
      let seam = sym (append_assoc front (b ∷ []) now) in (
        runs.0,
        runs.1,
        runs_more (front ++ b ∷ []) now a (runs.2)
            (subst (λ t. is_correct (histories_at correct t) a.replica ≡ true) seam is)
            (subst (λ t. Lawful meaning config ring a.replica (entries_at t a.replica) a.entry.event a.entry.reply) seam lawful),
      )

  -- what the replicas have in the end is a run
  pub runs_left : (logged : ℕ → ℕ) (now : List Added) (steps : List LoggedStep) (timeline : List Added) → RunsFrom meaning config ring correct [] now
      → RunsWithRestarts meaning config ring correct logged now steps timeline → RunsFrom meaning config ring correct [] timeline
  unfolding RunsWithRestarts
  runs_left logged now [] timeline runs is = subst (RunsFrom meaning config ring correct []) (sym is) runs
  runs_left logged now (Adds a ∷ steps) timeline runs next =
      runs_left logged (now ++ a ∷ []) steps timeline (runs_more [] now a runs (next.0) (next.1)) (next.2)
  runs_left logged now (Logs r count ∷ steps) timeline runs next = runs_left (with_log logged r count) now steps timeline runs (next.2)
  runs_left logged now (Restarts r kept ∷ steps) timeline runs next =
      runs_left logged (kept_of r kept now) steps timeline (runs_kept r kept [] [] now (λ x. refl) runs) (next.1)

  -- from the start on
  pub runs_from_start : (steps : List LoggedStep) (timeline : List Added) → RunsWithRestarts meaning config ring correct no_logs [] steps timeline
      → RunsFrom meaning config ring correct [] timeline
  unfolding RunsFrom
  runs_from_start steps timeline runs = runs_left no_logs [] steps timeline tt runs

-- the entries of the other replicas stay
pub kept_others : (r kept : ℕ) (t : List Added) (x : ℕ) → nat_eq x r ≡ false → entries_at (kept_of r kept t) x ≡ entries_at t x
unfolding kept_of
kept_others r zero [] x other = refl
kept_others r (suc kept) [] x other = refl
kept_others r zero (a ∷ t) x other =
    elim (cases_Bool (nat_eq a.replica r)) [
      | inl is ↦ simp (is, others_differ a.replica r x is other) (kept_others r zero t x other)
      | inr differs ↦ simp differs (ap (λ es. cond (nat_eq a.replica x) (a.entry ∷ []) [] ++ es) (kept_others r zero t x other))
    ]
kept_others r (suc kept) (a ∷ t) x other =
    ap (λ es. cond (nat_eq a.replica x) (a.entry ∷ []) [] ++ es) (kept_others r (cond (nat_eq a.replica r) kept (suc kept)) t x other)

-- replica r has its first entries
pub kept_own : (r kept : ℕ) (t : List Added) → entries_at (kept_of r kept t) r ≡ take kept (entries_at t r)
unfolding kept_of
kept_own r zero [] = refl
kept_own r (suc kept) [] = refl
kept_own r zero (a ∷ t) =
    elim (cases_Bool (nat_eq a.replica r)) [
      | inl is ↦ simp is (kept_own r zero t)
      | inr differs ↦ simp differs (kept_own r zero t)
    ]
kept_own r (suc kept) (a ∷ t) =
    elim (cases_Bool (nat_eq a.replica r)) [
      | inl is ↦ simp is (ap (λ es. a.entry ∷ es) (kept_own r kept t))
      | inr differs ↦ simp differs (kept_own r (suc kept) t)
    ]

-- the log of each replica is no longer than its history
abbrev Within : (ℕ → ℕ) → List Added → Type 0
Within logged now = (x : ℕ) → logged x ≤ length (entries_at now x)

module _ (meaning : Meanings) (config : Config) (ring : Ring) (correct : List ℕ) where
  -- what the logs have now is in the histories in the end
  pub stays : (logged : ℕ → ℕ) (now : List Added) (steps : List LoggedStep) (timeline : List Added) → Within logged now
      → RunsWithRestarts meaning config ring correct logged now steps timeline
      → (x : ℕ) → take (logged x) (entries_at timeline x) ≡ take (logged x) (entries_at now x)
  unfolding RunsWithRestarts
  stays logged now [] timeline within is x = ap (λ t. take (logged x) (entries_at t x)) is
  stays logged now (Adds a ∷ steps) timeline within next x =
      stays logged (now ++ a ∷ []) steps timeline
      (λ y. omega (arith, ap length (entries_at-append now (a ∷ []) y), length-append (entries_at now y) (entries_at (a ∷ []) y), within y)) (next.2) x
      ∙ ap (take (logged x)) (entries_at-append now (a ∷ []) x) ∙ take-append-le (logged x) (entries_at now x) (entries_at (a ∷ []) x) (within x)
  stays logged now (Logs r count ∷ steps) timeline within next x =
      let le = grows logged r count (next.0) x in
      sym (take-take (logged x) (with_log logged r count x) (entries_at timeline x) le)
      ∙ ap (take (logged x)) (stays (with_log logged r count) now steps timeline (inside logged now r count within (next.1)) (next.2) x)
      ∙ take-take (logged x) (with_log logged r count x) (entries_at now x) le
    where
      grows : (logged : ℕ → ℕ) (r count : ℕ) → logged r ≤ count → (x : ℕ) → logged x ≤ with_log logged r count x
      grows logged r count le x =
          elim (cases_Bool (nat_eq x r)) [
            | inl is ↦ simp is (subst (λ y. logged y ≤ count) (sym (eqb-true x r is)) le)
            | inr other ↦ simp other (omega arith)
          ]

      inside : (logged : ℕ → ℕ) (now : List Added) (r count : ℕ) → Within logged now → count ≤ length (entries_at now r) → Within (with_log logged r count) now
      inside logged now r count within le x =
          elim (cases_Bool (nat_eq x r)) [
            | inl is ↦ simp is (subst (λ y. count ≤ length (entries_at now y)) (sym (eqb-true x r is)) le)
            | inr other ↦ simp other (within x)
          ]
  stays logged now (Restarts r kept ∷ steps) timeline within next x =
      stays logged (kept_of r kept now) steps timeline (within_kept logged now r kept within (next.0)) (next.1) x ∙ same logged now r kept (next.0) x
    where
      same : (logged : ℕ → ℕ) (now : List Added) (r kept : ℕ) → logged r ≤ kept → (x : ℕ)
          → take (logged x) (entries_at (kept_of r kept now) x) ≡ take (logged x) (entries_at now x)
      same logged now r kept le x =
          elim (cases_Bool (nat_eq x r)) [
            | inl is ↦ let one : x ≡ r = eqb-true x r is in
                subst (λ y. take (logged y) (entries_at (kept_of r kept now) y) ≡ take (logged y) (entries_at now y)) (sym one)
                (ap (take (logged r)) (kept_own r kept now) ∙ take-take (logged r) kept (entries_at now r) le)
            | inr other ↦ ap (take (logged x)) (kept_others r kept now x other)
          ]

      within_kept : (logged : ℕ → ℕ) (now : List Added) (r kept : ℕ) → Within logged now → logged r ≤ kept → Within logged (kept_of r kept now)
      within_kept logged now r kept within le x =
          elim (cases_Bool (nat_eq x r)) [
            | inl is ↦ let one : x ≡ r = eqb-true x r is in
                subst (λ y. logged y ≤ length (entries_at (kept_of r kept now) y)) (sym one)
                (omega (arith, ap length (kept_own r kept now), length-take kept (entries_at now r), within r, le))
            | inr other ↦ subst (λ es. logged x ≤ length es) (sym (kept_others r kept now x other)) (within x)
          ]
