-- A floor rises, only over committed heights, and the heights below it stay retired.
use Rattle.ledger_model.specs.Meanings.{Meanings}
use Rattle.std.proofs.Common.{◌≡◌, ℕ, ◌+◌, ◌≤◌, cond, inl, inr, List, [], ◌∷◌, ◌++◌, length, sym, ap, subst, ◌∙◌, append_assoc, arith}
use Rattle.std.specs.Prelude.{None, is_some}
use Rattle.std.proofs.lemmas.Bool.{lt-ltb, ltb-true}
use Rattle.std.proofs.lemmas.List.{append-nil}
use Rattle.ledger_model.specs.declared.config.Config.{Config}
use Rattle.ledger_model.specs.declared.history.Entry.{Entry}
use Rattle.ledger_model.specs.Notes.{initial_of}
use Rattle.ledger_model.specs.Logs.{log_of}
use Rattle.ledger_model.specs.Commits.{commits_of, floor_step, floor_of}
use Rattle.ledger_model.specs.Rules.{Ring}
use Rattle.ledger_model.specs.Lawful.{Lawful, FollowsFrom, Follows}
use Rattle.ledger_model.proofs.Staying.{all_decided, executed-append, length-commits}
use Rattle.ledger_model.proofs.Floors.{floor_of-snoc, floor_cases, each_entry, retired_below}
use Rattle.ledger_laws.specs.Floors.{FloorRises, FloorIsTheLeast, FloorIsCommitted, ClosedForGood}

-- what comes after a prefix of a lawful history is lawful after it
follows_rest : (meaning : Meanings) (config : Config) (ring : Ring) (id : ℕ) (front xs ys : List Entry)
    → FollowsFrom meaning config ring id front (xs ++ ys)
    → FollowsFrom meaning config ring id (front ++ xs) ys
unfolding FollowsFrom
follows_rest meaning config ring id front [] ys follows =
    subst (λ es. FollowsFrom meaning config ring id es ys) (sym (append-nil front)) follows
follows_rest meaning config ring id front (x ∷ xs) ys follows =
    subst (λ es. FollowsFrom meaning config ring id es ys) (append_assoc front (x ∷ []) xs)
    (follows_rest meaning config ring id (front ++ x ∷ []) xs ys (follows.1))

rises_from : (meaning : Meanings) (config : Config) (ring : Ring) (id : ℕ) (front es : List Entry)
    → FollowsFrom meaning config ring id front es
    → floor_of front ≤ floor_of (front ++ es)
unfolding FollowsFrom
rises_from meaning config ring id front [] follows =
    let same : floor_of (front ++ []) ≡ floor_of front = ap floor_of (append-nil front) in omega arith
rises_from meaning config ring id front (e ∷ es) follows =
    let now : floor_of (front ++ e ∷ []) ≡ floor_step (floor_of front) e.reply = floor_of-snoc front e in
    let rest : floor_of (front ++ e ∷ []) ≤ floor_of ((front ++ e ∷ []) ++ es) =
    rises_from meaning config ring id (front ++ e ∷ []) es (follows.1) in
    let whole : floor_of ((front ++ e ∷ []) ++ es) ≡ floor_of (front ++ e ∷ es) = ap floor_of (append_assoc front (e ∷ []) es) in
    elim (floor_cases meaning config ring id front (e.event) (e.reply) (follows.0)) [
      | inl same ↦ omega (arith, now, rest, whole, same)
      | inr new ↦ omega (arith, now, rest, whole, new.above)
    ]

pub floor_rises : FloorRises
unfolding Follows
floor_rises meaning config ring id entries more follows =
    rises_from meaning config ring id entries more (follows_rest meaning config ring id [] entries more follows)

pub floor_is_the_least : FloorIsTheLeast
floor_is_the_least meaning config ring id h entries follows some =
    let is = retired_below meaning config ring id h some entries follows in
    (λ retired. ltb-true h (floor_of entries) (sym is ∙ retired), λ below. is ∙ lt-ltb h (floor_of entries) below)

-- a replica commits no less after one lawful entry more
commits_more : (meaning : Meanings) (config : Config) (ring : Ring) (id : ℕ) (front : List Entry) (e : Entry)
    → Follows meaning config ring id (front ++ e ∷ [])
    → Follows meaning config ring id front → length (commits_of config id front) ≤ length (commits_of config id (front ++ e ∷ []))
commits_more meaning config ring id front e next before =
    omega (
      arith,
      length-commits meaning config ring id front (all_decided meaning config ring id front before),
      length-commits meaning config ring id (front ++ e ∷ []) (all_decided meaning config ring id (front ++ e ∷ []) next),
      executed-append front (e ∷ []),
    )

pub floor_is_committed : FloorIsCommitted
unfolding floor_of
floor_is_committed meaning config ring id entries follows =
    each_entry meaning config ring id (λ es. floor_of es ≤ length (commits_of config id es) + 1) (omega arith) more entries follows
  where
    more : (front : List Entry) (e : Entry) → Follows meaning config ring id (front ++ e ∷ []) → Follows meaning config ring id front
        → Lawful meaning config ring id front e.event e.reply → floor_of front ≤ length (commits_of config id front) + 1
        → floor_of (front ++ e ∷ []) ≤ length (commits_of config id (front ++ e ∷ [])) + 1
    more front e next before lawful le =
        let now : floor_of (front ++ e ∷ []) ≡ floor_step (floor_of front) e.reply = floor_of-snoc front e in
        let longer = commits_more meaning config ring id front e next before in
        elim (floor_cases meaning config ring id front (e.event) (e.reply) lawful) [
          | inl same ↦ omega (arith, now, longer, same, le)
          | inr new ↦ omega (arith, now, longer, new.committed)
        ]

pub closed_for_good : ClosedForGood
closed_for_good meaning config ring id h entries more follows some below =
    let rises : floor_of entries ≤ floor_of (entries ++ more) = floor_rises meaning config ring id entries more follows in
    let retired = retired_below meaning config ring id h some (entries ++ more) follows
    ∙ lt-ltb h (floor_of (entries ++ more)) (omega (arith, rises, below)) in
    ap (λ b. is_some (cond b None (initial_of (log_of config id h (entries ++ more))))) retired
