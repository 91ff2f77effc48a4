-- A pool as a list: the reply to a submitted transaction, and what a block leaves in the pool.
use Rattle.std.specs.Prelude.{ℕ, ◌==◌, nat_lt, nat_le, Bool, not, List, [], ◌∷◌, ◌++◌, length, filter, Result, Ok, Err, if◌then◌else◌}
use Rattle.std.specs.List.{list_any}
use Rattle.ledger_model.specs.declared.reply.SubmitRefusal.{SubmitRefusal}
use Rattle.ledger_model.specs.declared.reply.SubmitRefusal.TheVariants as refusal
use Rattle.ledger_model.specs.Limits.{max_tx_len, max_pool_len}
use Rattle.ledger_model.specs.Values.{Value, same_bytes}

-- the transaction is one of these
abbrev pub is_among : List (List ℕ) → List ℕ → Bool
is_among txs tx = list_any (same_bytes tx) txs

-- the fault of the first test that is true, or else x
abbrev pub first_fault : {E X : Type 0} → List (Bool × E) → X → Result X E
first_fault [] x = Ok x
first_fault (c ∷ cs) x = if c.0 then Err c.1 else first_fault cs x

-- the pool's own refusals in order, each with whether it applies
abbrev pub own_refusals : Value → List ℕ → List (Bool × SubmitRefusal)
own_refusals pool tx =
    (length tx == 0, refusal.Empty)
    ∷ (nat_lt max_tx_len (length tx), refusal.TooLong)
    ∷ (is_among pool tx, refusal.Duplicate)
    ∷ (nat_le max_pool_len (length pool), refusal.Full)
    ∷ []

-- the reply to a submitted transaction, given the code that CheckTx returned
abbrev pub submit_answer : Value → List ℕ → ℕ → Result (Unit {0}) SubmitRefusal
submit_answer pool tx code = first_fault (own_refusals pool tx ++ (not (code == 0), refusal.Rejected code) ∷ []) tt

-- the pool after a block, given the code that CheckTx then returns for each transaction
abbrev pub left_after : Value → (List ℕ → ℕ) → Value → Value
left_after block code pool = filter (λ tx. code tx == 0) (filter (λ tx. not (is_among block tx)) pool)
