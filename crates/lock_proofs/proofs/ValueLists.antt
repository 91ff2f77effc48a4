-- Lists of values that ascend, and the values of a table.
use Rattle.std.proofs.Common.{◌≡◌, true, false, ◌⊎◌, inl, inr, List, [], ◌∷◌, refl, sym, ap, subst}
use Rattle.ledger_model.specs.Notes.{Has}
use Rattle.ledger_model.specs.Values.{same_value, is_below, with_value}
use Rattle.ledger_model.specs.Spelling.{are_ascending}
use Rattle.lock_proofs.specs.LockTables.{SignedLock, with_lock}
use Rattle.ledger_model.proofs.Lists.{same_value-equal}
use Rattle.ledger_model.proofs.Below.{Same, Below, Above, side, below_trans, below_differs, tail_ascends, above_all}
use Rattle.lock_proofs.specs.Tables.{values_of}

-- ---- tables

pub has_value : (t : List SignedLock) (m : SignedLock) → Has t m → Has (values_of t) m.lock.value
has_value [] m h = absurd h
has_value (x ∷ xs) m (inl e) = inl (ap (λ y. y.lock.value) e)
has_value (x ∷ xs) m (inr h) = inr (has_value xs m h)

-- the values of the table with a lock more
pub with_lock-values : (s : SignedLock) (t : List SignedLock) → values_of (with_lock s t) ≡ with_value s.lock.value (values_of t)
with_lock-values s [] = refl
with_lock-values s (m ∷ ms) =
    let v = s.lock.value in
    let x = m.lock.value in
    elim (side v x) [
      | Same same not_above ↦ rw same (ap (λ y. y ∷ values_of ms) (same_value-equal v x same))
      | Below differs under not_above ↦ rw (differs, under) refl
      | Above differs not_under above ↦ rw (differs, not_under) (ap (λ ys. x ∷ ys) (with_lock-values s ms))
    ]

-- the lock, or another on another value
pub with_lock_has : (s : SignedLock) (t : List SignedLock) → are_ascending (values_of t) ≡ true → (m : SignedLock) → Has (with_lock s t) m
    → (s ≡ m) ⊎ (Has t m × (same_value s.lock.value m.lock.value ≡ false))
with_lock_has s [] a m (inl e) = inl e
with_lock_has s [] a m (inr none) = absurd none
with_lock_has s (x ∷ xs) a m h =
    let v = s.lock.value in
    let w = x.lock.value in
    let above : (Has xs m) → is_below w m.lock.value ≡ true = λ k. above_all w (values_of xs) a m.lock.value (has_value xs m k) in
    elim (side v w) [
      | Same same not_above ↦ elim (let g : Has (s ∷ xs) m = rw same at h in g) [
        | inl e ↦ inl e
        | inr k ↦ inr (
          inr k,
          below_differs v m.lock.value
              (subst (λ y. is_below y m.lock.value ≡ true) (sym (same_value-equal v w same)) (above k)),
        )
      ]
      | Below differs under not_above ↦ elim (let g : Has (s ∷ x ∷ xs) m = rw (differs, under) at h in g) [
        | inl e ↦ inl e
        | inr k ↦ inr (
          k,
          elim k [
            | inl e ↦ subst (λ y. same_value v y.lock.value ≡ false) e differs
            | inr l ↦ below_differs v m.lock.value (below_trans v w m.lock.value under (above l))
          ],
        )
      ]
      | Above differs not_under higher ↦ elim (let g : Has (x ∷ with_lock s xs) m = rw (differs, not_under) at h in g) [
        | inl e ↦ inr (inl e, subst (λ y. same_value v y.lock.value ≡ false) e differs)
        | inr k ↦ elim (with_lock_has s xs (tail_ascends w (values_of xs) a) m k) [
          | inl e ↦ inl e
          | inr r ↦ inr (inr (r.0), r.1)
        ]
      ]
    ]
