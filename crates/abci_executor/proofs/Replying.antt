-- The reply to a query, from the application's answer.
use Rattle.ledger_model.specs.Meanings.{Meanings}
use Rattle.std.proofs.Common.{◌≡◌, ◌≢◌, ℕ, Bool, true, false, List, refl, ap}
use Rattle.std.specs.Prelude.{◌==◌, not, ◌&&◌, Option, Ok, Err, IfSome}
use Rattle.std.proofs.lemmas.Bool.{eqb-false, ne_eqb}
use Rattle.ledger_model.specs.Applications.{Machine, run, transactions_of}
use Rattle.ledger_model.specs.Replies.{query_reply}
use Rattle.abci.specs.declared.info.QueryFault.{QueryFault}
use Rattle.abci.specs.declared.info.QueryFault.TheVariants as fault
use Rattle.abci.specs.Meaning.{without_work, AnswersTo}
use Rattle.abci_executor.specs.Blocks.{IsQueryReply, query_answer_of}

both : (a b : Bool) → ((a ≡ false) × (b ≡ false) → ⊥) → (not a && not b) ≡ false
both true b other = refl
both false true other = refl
both false false other = absurd (other (refl, refl))

-- the height is one that may be asked about, or it is not
is_held : (h n : ℕ) → ((h ≢ 0) × (h ≢ n) → ⊥) → (not (h == 0) && not (h == n)) ≡ false
is_held h n held = both (h == 0) (h == n) (λ tests. held (eqb-false h 0 (tests.0), eqb-false h n (tests.1)))

is_another : (h n : ℕ) → (h ≢ 0) × (h ≢ n) → (not (h == 0) && not (h == n)) ≡ true
is_another h n other = rw (ne_eqb h 0 (other.0), ne_eqb h n (other.1)) refl

-- a value that is held
pub replies_held : (meaning : Meanings) (m : Machine) (key : List ℕ) (height told : ℕ) (value : Option (List ℕ))
    → AnswersTo meaning m key value
    → ((height ≢ 0) × (height ≢ m.height) → ⊥) → told ≡ m.height
    → IsQueryReply meaning (without_work m) key height (Ok (record { height = told; value = value }))
unfolding run query_reply
replies_held meaning m key height told value answers held last =
    λ batches led.
    let test = is_held height m.height held in
    let at = ap (λ (n : Machine). n.height) led in
    let same = answers (transactions_of batches) (ap (λ (n : Machine). n.committed) led) in
    rw (← at, test, last, same) refl

-- a fault
pub replies_fault : (meaning : Meanings) (m : Machine) (key : List ℕ) (height : ℕ) (f : QueryFault)
    → ((f ≡ fault.NotHeld) → (height ≢ 0) × (height ≢ m.height))
    → IfSome (query_answer_of (Err f)) (IsQueryReply meaning (without_work m) key height)
unfolding run query_reply
replies_fault meaning m key height fault.NotHeld other =
    λ batches led.
    let test = is_another height m.height (other refl) in
    let at = ap (λ (n : Machine). n.height) led in
    rw (← at, test) refl
replies_fault meaning m key height fault.NoMemory other = tt
