-- Histories have at most one first break and one first unsent statement; histories that are replays have no break.
use Rattle.ledger_model.specs.Meanings.{Meanings}
use Rattle.std.proofs.Common.{◌≡◌, ℕ, zero, suc, ◌+◌, ◌<◌, Bool, true, false, ◌&&◌, ◌||◌, inl, inr, List, [], ◌∷◌, ◌++◌, take}
use Rattle.std.proofs.Common.{refl, sym, subst, ◌∙◌, arith}
use Rattle.std.specs.Prelude.{nat_eq, nat_lt, nat_le, Some}
use Rattle.std.proofs.lemmas.List.{take-take}
use Rattle.std.proofs.lemmas.Bool.{cases_Bool, both_ways, eqb-true, ltb-true}
use Rattle.std.proofs.lemmas.Option.{same_Some}
use Rattle.ledger_model.specs.declared.config.Config.{Config}
use Rattle.ledger_model.specs.declared.history.Entry.{Entry}
use Rattle.ledger_model.specs.declared.history.History.{History}
use Rattle.ledger_model.specs.Rules.{Ring}
use Rattle.ledger_model.specs.Lawful.{Replay, ReplaysFrom}
use Rattle.ledger_model.specs.Groups.{history_of}
use Rattle.ledger_model.specs.Audits.{AreReplays, BreaksAt, IsFirstBreak, IsFirstUnsent}

-- ---- the first break

-- the first entries of a replay are a replay
replays_front : (meaning : Meanings) (config : Config) (ring : Ring) (id n : ℕ) (front es : List Entry)
    → ReplaysFrom meaning config ring id front es
    → ReplaysFrom meaning config ring id front (take n es)
unfolding ReplaysFrom
replays_front meaning config ring id zero front es replays = tt
replays_front meaning config ring id (suc n) front [] replays = tt
replays_front meaning config ring id (suc n) front (e ∷ es) replays =
    (replays.0, replays.1, replays_front meaning config ring id n (front ++ e ∷ []) es (replays.2))

pub replay_front : (meaning : Meanings) (config : Config) (ring : Ring) (id n : ℕ) (es : List Entry) → Replay meaning config ring id es
    → Replay meaning config ring id (take n es)
unfolding Replay
replay_front meaning config ring id n es replay = replays_front meaning config ring id n [] es replay

-- a history that breaks isn't a replay
breaks_no_replay : (meaning : Meanings) (config : Config) (ring : Ring) (histories : List History) (r i : ℕ)
    → BreaksAt meaning config ring histories r i
    → ((m : History) → history_of histories r ≡ Some m → Replay meaning config ring r m.entries) → ⊥
breaks_no_replay meaning config ring histories r i breaks replay =
    breaks.broken (replay_front meaning config ring r (i + 1) breaks.history.entries (replay breaks.history breaks.of))

-- replays have no break
pub no_break : (meaning : Meanings) (config : Config) (ring : Ring) (histories : List History) (r i : ℕ)
    → AreReplays meaning config ring histories
    → IsFirstBreak meaning config ring histories r i → ⊥
no_break meaning config ring histories r i replays first = breaks_no_replay meaning config ring histories r i first.breaks (replays r)

-- a history breaks no earlier than where it breaks
no_earlier : (meaning : Meanings) (config : Config) (ring : Ring) (histories : List History) (r i j : ℕ)
    → BreaksAt meaning config ring histories r i
    → BreaksAt meaning config ring histories r j → i < j → ⊥
no_earlier meaning config ring histories r i j first other less =
    let same : other.history ≡ first.history = same_Some other.history first.history (sym other.of ∙ first.of) in
    let before : Replay meaning config ring r (take j first.history.entries) =
    subst (λ (m : History). Replay meaning config ring r (take j m.entries)) same other.before in
    first.broken (subst (Replay meaning config ring r) (take-take (i + 1) j first.history.entries (omega (arith, less)))
    (replay_front meaning config ring r (i + 1) (take j first.history.entries) before))

between : (a b : ℕ) → (a < b → ⊥) → (b < a → ⊥) → a ≡ b
between a b one other =
    elim (cases_Bool (nat_lt a b)) [
      | inl less ↦ absurd (one (ltb-true a b less))
      | inr at_least ↦ elim (cases_Bool (nat_lt b a)) [
        | inl less ↦ absurd (other (ltb-true b a less))
        | inr at_most ↦ same a b at_least at_most
      ]
    ]
  where
    same : (a b : ℕ) → nat_lt a b ≡ false → nat_lt b a ≡ false → a ≡ b
    same a b at_least at_most = grind (arith)

-- there is one first break at most
pub one_first_break : (meaning : Meanings) (config : Config) (ring : Ring) (histories : List History) (r i q j : ℕ)
    → IsFirstBreak meaning config ring histories r i → IsFirstBreak meaning config ring histories q j → (r ≡ q) × (i ≡ j)
one_first_break meaning config ring histories r i q j first other =
    let same : r ≡ q =
    between r q (λ less. breaks_no_replay meaning config ring histories r i first.breaks (λ m of. other.least r m less of))
    (λ less. breaks_no_replay meaning config ring histories q j other.breaks (λ m of. first.least q m less of)) in
    let here : BreaksAt meaning config ring histories r j = subst (λ x. BreaksAt meaning config ring histories x j)
    (sym same) other.breaks in (
      same,
      between i j (no_earlier meaning config ring histories r i j first.breaks here)
          (no_earlier meaning config ring histories r j i here first.breaks),
    )

-- ---- the first unsent statement

-- neither number is greater, so they are the same, and what comes after them decides
neither_after : (a b : ℕ) (s t : Bool) → (nat_lt a b || (nat_eq a b && s)) ≡ true → (nat_lt b a || (nat_eq b a && t)) ≡ true
    → (a ≡ b) × ((s ≡ true) × (t ≡ true))
neither_after a b s t one other =
    elim (cases_Bool (nat_lt a b)) [
      | inl less ↦ absurd (no_more (nat_lt b a) (nat_eq b a) t (not_less a b less) (not_same a b less) other)
      | inr at_least ↦ elim (cases_Bool (nat_eq a b)) [
        | inl is ↦
            let same = eqb-true a b is in (
              same,
              (decided (nat_lt a b) (nat_eq a b) s at_least one, decided (nat_lt b a) (nat_eq b a) t (at_most a b same) other),
            )
        | inr apart ↦ absurd (no_more (nat_lt a b) (nat_eq a b) s at_least apart one)
      ]
    ]
  where
    no_more : (less same t : Bool) → less ≡ false → same ≡ false → (less || (same && t)) ≡ true → ⊥
    no_more true same t l s e = absurd (both_ways true l refl)
    no_more false true t l s e = absurd (both_ways true s refl)
    no_more false false t l s e = absurd (both_ways false refl e)

    decided : (less same t : Bool) → less ≡ false → (less || (same && t)) ≡ true → t ≡ true
    decided true same t l e = absurd (both_ways true l refl)
    decided false true t l e = e
    decided false false t l e = absurd (both_ways false refl e)

    not_less : (a b : ℕ) → nat_lt a b ≡ true → nat_lt b a ≡ false
    not_less a b less = grind (arith)

    not_same : (a b : ℕ) → nat_lt a b ≡ true → nat_eq b a ≡ false
    not_same a b less = grind (arith)

    at_most : (a b : ℕ) → a ≡ b → nat_lt b a ≡ false
    at_most a b same = grind (arith)

-- there is one first unsent statement at most
pub one_first_unsent : (histories : List History) (r i x q j y : ℕ) → IsFirstUnsent histories r i x → IsFirstUnsent histories q j y
    → (r ≡ q) × ((i ≡ j) × (x ≡ y))
one_first_unsent histories r i x q j y first other =
    let readers = neither_after r q (nat_lt i j || (nat_eq i j && nat_le x y)) (nat_lt j i || (nat_eq j i && nat_le y x))
    (first.least q j y other.is) (other.least r i x first.is) in
    let entries = neither_after i j (nat_le x y) (nat_le y x) (readers.1.0) (readers.1.1) in
    (readers.0, (entries.0, same x y (entries.1.0) (entries.1.1)))
  where
    same : (x y : ℕ) → nat_le x y ≡ true → nat_le y x ≡ true → x ≡ y
    same x y le ge = grind (arith)
