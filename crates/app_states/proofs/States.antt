-- An application with a state that is computed from the accepted transactions: what its calls owe, from what is true of the state.
use Rattle.std.proofs.Common.{◌≡◌, ◌∙◌, ℕ, false, List, [], ◌∷◌, ◌++◌, ap, sym}
use Rattle.std.specs.Prelude.{◌==◌, Option}
use Rattle.ledger_model.specs.Meanings.{Meaning, accepted_by}
use Rattle.app_states.specs.AppStates.{Checks, DeliversTx, HoldsUnder, bytes_after}
use Rattle.app_states.proofs.Accepted.{accepted-passes, state-kept}

-- The application's answers are those of a state S. `of` computes it from the accepted transactions, and the bytes of a state
-- that keeps the invariant Good show which one it is.
pub record HasState (S : Type 0) (of : List (List ℕ) → S) (Good : S → Type 0) (m : Meaning) : Type 0 where
  pub bytes : S → List ℕ
  pub code : S → List ℕ → ℕ
  pub check : S → List ℕ → ℕ
  pub held : S → List ℕ → Option (List ℕ)
  pub code_is : (done : List (List ℕ)) (tx : List ℕ) → m.code done tx ≡ code (of done) tx
  pub check_is : (done : List (List ℕ)) (tx : List ℕ) → m.check done tx ≡ check (of done) tx
  pub held_is : (done : List (List ℕ)) (key : List ℕ) → m.held done key ≡ held (of done) key
  pub bytes_are : (done : List (List ℕ)) → m.state done ≡ bytes (of done)
  pub shows : (txs : List (List ℕ)) (s : S) → Good s → bytes s ≡ bytes_after m txs → s ≡ of (accepted_by m [] txs)

module _ (S : Type 0) (of : List (List ℕ) → S) (Good : S → Type 0) (m : Meaning) (has : HasState S of Good m) (s : S) (good : Good s) where
  -- a transaction of code 0 leads to this next state
  pub delivers : (tx : List ℕ) (next : S) → has.code s tx ≡ 0
      → ((done : List (List ℕ)) → s ≡ of done → next ≡ of (done ++ tx ∷ []))
      → DeliversTx m (has.bytes s) tx 0 (has.bytes next)
  delivers tx next zero_code leads = λ txs e.
      let done = accepted_by m [] txs in
      let same = has.shows txs s good e in
      let code : m.code done tx ≡ 0 = has.code_is done tx ∙ ap (λ t. has.code t tx) (sym same) ∙ zero_code in (
        sym code,
        ap has.bytes (leads done same) ∙ sym (has.bytes_are (done ++ tx ∷ [])) ∙ sym (ap m.state (accepted-passes m txs tx code)),
      )

  -- a transaction of another code leads to no other state
  pub refuses : (tx : List ℕ) (code : ℕ) → code ≡ has.code s tx → (code == 0) ≡ false → DeliversTx m (has.bytes s) tx code (has.bytes s)
  refuses tx code is refused = λ txs e.
      let done = accepted_by m [] txs in
      let answer : code ≡ m.code done tx = is ∙ ap (λ t. has.code t tx) (has.shows txs s good e) ∙ sym (has.code_is done tx) in
      (answer, state-kept m txs tx _ e (ap (λ n. n == 0) (sym answer) ∙ refused))

  pub checks : (tx : List ℕ) (code : ℕ) → code ≡ has.check s tx → Checks m (has.bytes s) tx code
  checks tx code is = λ txs e. is ∙ ap (λ t. has.check t tx) (has.shows txs s good e) ∙ sym (has.check_is (accepted_by m [] txs) tx)

  pub holds : (key : List ℕ) (value : Option (List ℕ)) → value ≡ has.held s key → HoldsUnder m (has.bytes s) key value
  holds key value is = λ txs e. is ∙ ap (λ t. has.held t key) (has.shows txs s good e) ∙ sym (has.held_is (accepted_by m [] txs) key)
