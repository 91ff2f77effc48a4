-- The bytes of a store, in terms of transactions.
use Rattle.std.proofs.Common.{◌≡◌, ℕ, List, [], ◌∷◌, ◌++◌, refl, sym, ap, ◌∙◌, subst}
use Rattle.std.specs.List.Sorted.{IsStrictlySortedBy}
use Rattle.std.specs.Map.{keys_of as entry_keys, lookup}
use Rattle.std.specs.BTreeMap.{insert_entry}
use Rattle.ledger_model.specs.Values.{same_bytes}
use Rattle.ledger_model.specs.Meanings.{accepted_by, LeadToSameBytes, Determines}
use Rattle.ledger_model.specs.Kinds.{store, store_bytes, key_of, value_in, pairs_of}
use Rattle.app_kinds.specs.Sorted.{Pair}
use Rattle.app_states.proofs.Accepted.{accepted-passes, leads-on}
use Rattle.app_kinds.proofs.Encodings.{store_bytes-same}
use Rattle.app_kinds.proofs.Entries.{byte_cmp}
use Rattle.app_kinds.proofs.Stored.{stored-push, lookup-stored, pairs-next}

-- the pairs whose bytes are those of accepted transactions
pairs-of_bytes : (done : List (List ℕ)) (ps : List Pair) → store_bytes ps ≡ store.state done → ps ≡ pairs_of done
unfolding store
pairs-of_bytes done ps e = store_bytes-same ps (pairs_of done) e

-- every transaction is accepted
pub code_of-store : (done : List (List ℕ)) (tx : List ℕ) → store.code done tx ≡ 0
unfolding store
code_of-store done tx = refl

-- one transaction more
pub state-set : (txs : List (List ℕ)) (tx : List ℕ) (ps qs : List Pair) → store_bytes ps ≡ store.state (accepted_by store [] txs)
    → IsStrictlySortedBy byte_cmp (entry_keys ps) → qs ≡ insert_entry byte_cmp ps (key_of tx) (value_in tx)
    → store_bytes qs ≡ store.state (accepted_by store [] (txs ++ tx ∷ []))
unfolding store
state-set txs tx ps qs e sorted is =
    let done = accepted_by store [] txs in
    let same = pairs-of_bytes done ps e in
    rw (accepted-passes store txs tx (code_of-store done tx))
    (ap store_bytes (is ∙ ap (λ (z : List Pair). insert_entry byte_cmp z (key_of tx) (value_in tx)) same
    ∙ sym (stored-push done tx (subst (λ (z : List Pair). IsStrictlySortedBy byte_cmp (entry_keys z)) same sorted))))

-- the answer to a key
pub held-stored : (done : List (List ℕ)) (ps : List Pair) (key : List ℕ) → store_bytes ps ≡ store.state done
    → lookup (same_bytes key) ps ≡ store.held done key
unfolding store
held-stored done ps key e = ap (lookup (same_bytes key)) (pairs-of_bytes done ps e) ∙ lookup-stored done key

-- transactions that lead to the same bytes lead to the same pairs
same-pairs : (txs us : List (List ℕ)) → LeadToSameBytes store txs us
    → pairs_of (accepted_by store [] txs) ≡ pairs_of (accepted_by store [] us)
unfolding store
same-pairs txs us same = store_bytes-same (pairs_of (accepted_by store [] txs)) (pairs_of (accepted_by store [] us)) same

pub store_determines : Determines store
unfolding store
store_determines = record {
  code = λ txs us tx same. refl;
  check = λ txs us tx same. refl;
  held = λ txs us key same.
      sym (lookup-stored (accepted_by store [] txs) key) ∙ ap (λ (ps : List Pair). lookup (same_bytes key) ps) (same-pairs txs us same)
      ∙ lookup-stored (accepted_by store [] us) key;
  state = λ txs us tx same. leads-on store txs us tx same refl
      (λ passes. ap store_bytes (pairs-next (accepted_by store [] txs) (accepted_by store [] us) tx (same-pairs txs us same)));
}
