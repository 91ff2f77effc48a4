-- Which transactions an application has accepted, after one more: lemmas for every meaning.
use Rattle.std.proofs.Common.{◌≡◌, ℕ, Bool, true, false, cond, List, [], ◌∷◌, ◌++◌, refl, sym, ap, ◌∙◌, eqb-true}
use Rattle.std.specs.Prelude.{◌==◌, if◌then◌else◌}
use Rattle.ledger_model.specs.Meanings.{Meaning, accepted_by, LeadToSameBytes}

-- what is accepted once this transaction was tested
abbrev next_of : Meaning → List (List ℕ) → List ℕ → List (List ℕ)
next_of m done tx = if m.code done tx == 0 then done ++ tx ∷ [] else done

-- what the opening has, and each accepted transaction keeps
pub accepted-keeps : (m : Meaning) (P : List (List ℕ) → Type 0)
    → ((done : List (List ℕ)) (tx : List ℕ) → P done → m.code done tx ≡ 0 → P (done ++ tx ∷ []))
    → (done txs : List (List ℕ)) → P done → P (accepted_by m done txs)
unfolding accepted_by
accepted-keeps m P keeps done [] has = has
accepted-keeps m P keeps done (tx ∷ txs) has =
    accepted-keeps m P keeps (next_of m done tx) txs (by (m.code done tx == 0) refl)
  where
    by : (b : Bool) → (m.code done tx == 0) ≡ b → P (cond b (done ++ tx ∷ []) done)
    by true e = keeps done tx has (eqb-true _ _ e)
    by false e = has

accepted-snoc : (m : Meaning) (done txs : List (List ℕ)) (tx : List ℕ)
    → accepted_by m done (txs ++ tx ∷ []) ≡ next_of m (accepted_by m done txs) tx
unfolding accepted_by
accepted-snoc m done [] tx = refl
accepted-snoc m done (t ∷ txs) tx = accepted-snoc m (next_of m done t) txs tx

-- a transaction of code 0 is accepted
pub accepted-passes : (m : Meaning) (txs : List (List ℕ)) (tx : List ℕ) → m.code (accepted_by m [] txs) tx ≡ 0
    → accepted_by m [] (txs ++ tx ∷ []) ≡ accepted_by m [] txs ++ tx ∷ []
accepted-passes m txs tx e =
    let d = accepted_by m [] txs in
    accepted-snoc m [] txs tx ∙ ap (λ n. if n == 0 then d ++ tx ∷ [] else d) e

-- and another is not
pub accepted-refused : (m : Meaning) (txs : List (List ℕ)) (tx : List ℕ) → (m.code (accepted_by m [] txs) tx == 0) ≡ false
    → accepted_by m [] (txs ++ tx ∷ []) ≡ accepted_by m [] txs
accepted-refused m txs tx e =
    let d = accepted_by m [] txs in
    accepted-snoc m [] txs tx ∙ ap (λ b. if b then d ++ tx ∷ [] else d) e

-- a refused transaction leaves the bytes
pub state-kept : (m : Meaning) (txs : List (List ℕ)) (tx : List ℕ) (state : List ℕ) → state ≡ m.state (accepted_by m [] txs)
    → (m.code (accepted_by m [] txs) tx == 0) ≡ false → state ≡ m.state (accepted_by m [] (txs ++ tx ∷ []))
state-kept m txs tx state e refused = e ∙ ap m.state (sym (accepted-refused m txs tx refused))

-- one code, and the same bytes where it is accepted, lead to the same bytes
pub leads-on : (m : Meaning) (txs us : List (List ℕ)) (tx : List ℕ) → LeadToSameBytes m txs us
    → m.code (accepted_by m [] txs) tx ≡ m.code (accepted_by m [] us) tx
    → (m.code (accepted_by m [] txs) tx ≡ 0
    → m.state (accepted_by m [] txs ++ tx ∷ []) ≡ m.state (accepted_by m [] us ++ tx ∷ []))
    → LeadToSameBytes m (txs ++ tx ∷ []) (us ++ tx ∷ [])
leads-on m txs us tx same code passes = by (m.code (accepted_by m [] txs) tx == 0) refl
  where
    by : (b : Bool) → (m.code (accepted_by m [] txs) tx == 0) ≡ b → LeadToSameBytes m (txs ++ tx ∷ []) (us ++ tx ∷ [])
    by true e =
        let zero_code = eqb-true _ _ e in
        ap m.state (accepted-passes m txs tx zero_code) ∙ passes zero_code
        ∙ sym (ap m.state (accepted-passes m us tx (sym code ∙ zero_code)))
    by false e =
        ap m.state (accepted-refused m txs tx e) ∙ same
        ∙ sym (ap m.state (accepted-refused m us tx (ap (λ n. n == 0) (sym code) ∙ e)))
