-- A search decides whether some entry accepts a statement that its signer's history doesn't send. So an audit catches forks.
use Rattle.std.proofs.Common.{◌≡◌, ℕ, zero, suc, ◌+◌, ◌⊎◌, inl, inr, List, [], ◌∷◌, map, refl, sym, ap, subst, ◌∙◌, arith}
use Rattle.std.specs.Prelude.{nat_eq, Option, Some, None, slice_get}
use Rattle.std.proofs.lemmas.Bool.{eqb-true}
use Rattle.std.proofs.lemmas.Option.{same_Some}
use Rattle.ledger_model.specs.declared.history.Entry.{Entry}
use Rattle.ledger_model.specs.declared.history.History.{History}
use Rattle.ledger_model.specs.Notes.{Has}
use Rattle.ledger_model.specs.Groups.{history_of}
use Rattle.ledger_model.specs.Audits.{unsent_in, IsUnsent, NothingUnsent}
use Rattle.ledger_model.proofs.Steps.{map_has}
use Rattle.ledger_model.proofs.Lists.{found_has}
use Rattle.ledger_laws.specs.Audits.{SomeUnsent, ForkIsCaught}
use Rattle.ledger_laws.proofs.Audits.{audited_histories_have_ledger}
use Rattle.ledger_laws.proofs.Refuted.{fork_has_no_ledger}

list_cases : {X : Type 0} (xs : List X) → ((x : X) × Has xs x) ⊎ ((x : X) → Has xs x → ⊥)
list_cases [] = inr (λ x has. has)
list_cases (x ∷ xs) = inl (x, inl refl)

module _ (histories : List History) where
  -- the search among the entries of a history from place i on
  search_entries : (r : ℕ) (m : History) → history_of histories r ≡ Some m → (i : ℕ) (es : List Entry)
      → ((j : ℕ) (e : Entry) → slice_get es j ≡ Some e → slice_get m.entries (i + j) ≡ Some e)
      → SomeUnsent histories ⊎ ((j x : ℕ) (e : Entry) → slice_get es j ≡ Some e → Has (unsent_in histories e) x → ⊥)
  search_entries r m found i [] at = inr (λ j x e none has. cc)
  search_entries r m found i (e ∷ es) at =
      elim (list_cases (unsent_in histories e)) [
        | inl some ↦
            let here : i + 0 ≡ i = omega arith in
            let there : slice_get m.entries i ≡ Some e = ap (slice_get m.entries) (sym here) ∙ at 0 e refl in
            inl (r, i, some.0, record { history = m; of = found; entry = e; at = there; unsent = some.1 })
        | inr none ↦ elim (search_entries r m found (i + 1) es (λ j d is.
            let same : i + 1 + j ≡ i + suc j = omega arith in ap (slice_get m.entries) same ∙ at (suc j) d is)) [
              | inl some ↦ inl some
              | inr others ↦ inr (none_of e es none others)
            ]
      ]
    where
      none_of : (e : Entry) (es : List Entry) → ((x : ℕ) → Has (unsent_in histories e) x → ⊥)
          → ((j x : ℕ) (d : Entry) → slice_get es j ≡ Some d → Has (unsent_in histories d) x → ⊥)
          → (j x : ℕ) (d : Entry) → slice_get (e ∷ es) j ≡ Some d → Has (unsent_in histories d) x → ⊥
      none_of e es none others zero x d is has = none x (subst (λ y. Has (unsent_in histories y) x) (sym (same_Some e d is)) has)
      none_of e es none others (suc j) x d is has = others j x d is has

  -- the search in a replica's history, if it has one
  search_history : (r : ℕ) (o : Option History) → history_of histories r ≡ o
      → SomeUnsent histories ⊎ ((i x : ℕ) → IsUnsent histories r i x → ⊥)
  search_history r None none = inr (λ i x is. absurd (let e = sym none ∙ is.of in cc))
  search_history r (Some m) found =
      elim (search_entries r m found 0 m.entries (λ j e is. let same : j ≡ 0 + j = omega arith in
      ap (slice_get m.entries) (sym same) ∙ is)) [
        | inl some ↦ inl some
        | inr none ↦ inr (λ i x is.
            let same : is.history ≡ m = same_Some is.history m (sym is.of ∙ found) in
            none i x is.entry (ap (λ (n : History). slice_get n.entries i) (sym same) ∙ is.at) is.unsent)
      ]

  -- the search in the histories of these replicas
  search_replicas : (rs : List ℕ) → SomeUnsent histories ⊎ ((r i x : ℕ) → Has rs r → IsUnsent histories r i x → ⊥)
  search_replicas [] = inr (λ r i x has is. has)
  search_replicas (r ∷ rs) =
      elim (search_history r (history_of histories r) refl) [
        | inl some ↦ inl some
        | inr none ↦ elim (search_replicas rs) [
          | inl some ↦ inl some
          | inr others ↦ inr (either r rs none others)
        ]
      ]
    where
      either : (r : ℕ) (rs : List ℕ) → ((i x : ℕ) → IsUnsent histories r i x → ⊥)
          → ((q i x : ℕ) → Has rs q → IsUnsent histories q i x → ⊥)
          → (q i x : ℕ) → Has (r ∷ rs) q → IsUnsent histories q i x → ⊥
      either r rs none others q i x (inl same) is = none i x (subst (λ y. IsUnsent histories y i x) (sym same) is)
      either r rs none others q i x (inr later) is = others q i x later is

  -- some accepted statement is unsent, or none is
  pub some_or_nothing : SomeUnsent histories ⊎ NothingUnsent histories
  some_or_nothing =
      elim (search_replicas (map (λ (m : History). m.replica) histories)) [
        | inl some ↦ inl some
        | inr none ↦ inr (λ r i x is.
            let has = found_has (λ (m : History). nat_eq m.replica r) histories is.history is.of in
            none r i x (subst (Has (map (λ (m : History). m.replica) histories)) (eqb-true is.history.replica r has.1)
            (map_has (λ (m : History). m.replica) histories is.history has.0)) is)
      ]

-- where replays fork, some accepted statement is unsent
pub fork_is_caught : ForkIsCaught
fork_is_caught meaning config ring histories r q i m n v w count replay found_m found_n at_v at_w differ =
    elim (some_or_nothing histories) [
      | inl some ↦ some
      | inr nothing ↦ absurd (let one = audited_histories_have_ledger meaning config ring histories count replay nothing in
          fork_has_no_ledger meaning config histories r q i m n v w found_m found_n at_v at_w differ one.0 one.1)
    ]
