-- The ring of the replicas' public keys, key by key.
use Rattle.std.proofs.Common.{◌≡◌, ℕ, zero, suc, ◌+◌, ◌<◌, List, [], ◌∷◌, map, refl, ap, ◌∙◌, arith}
use Rattle.std.specs.Prelude.{Some, slice_get, option_map}
use Rattle.std.specs.List.{range_with_len}
use Rattle.std.proofs.lemmas.Option.{slice_get-map}
use Rattle.ledger_model.specs.declared.config.Config.{Config}
use Rattle.lms_tree.specs.Trees.{Secret}
use Rattle.key_ring.specs.Signers.{SignerView, public_key_of}
use Rattle.cluster_setup.specs.Keys.{unused, ring_with}

get_range_at : (a n i : ℕ) → i < n → slice_get (range_with_len a n) i ≡ Some (a + i)
get_range_at a zero i lt = absurd (omega arith)
get_range_at a (suc n) zero lt = ap Some (omega arith)
get_range_at a (suc n) (suc i) lt = get_range_at (a + 1) n i (omega arith) ∙ ap Some (omega arith)

-- the key of a replica is in the ring at its number
pub key_in_ring : (config : Config) (secrets : ℕ → Secret) (r : ℕ) → r < config.replicas
    → slice_get (ring_with config secrets) r ≡ Some (public_key_of (secrets r))
key_in_ring config secrets r lt =
    slice_get-map (λ k. public_key_of (secrets k)) (range_with_len 0 config.replicas) r
    ∙ ap (option_map (λ k. public_key_of (secrets k))) (get_range_at 0 config.replicas r lt) ∙ ap (λ k. Some (public_key_of (secrets k))) (omega arith)

-- the public keys of the key pairs of secrets
pub keys_of_unused : (secrets : ℕ → Secret) (rs : List ℕ)
    → map (λ (keys : SignerView). public_key_of keys.secret) (map (λ r. unused (secrets r)) rs) ≡ map (λ r. public_key_of (secrets r)) rs
keys_of_unused secrets [] = refl
keys_of_unused secrets (r ∷ rs) = ap (λ l. public_key_of (secrets r) ∷ l) (keys_of_unused secrets rs)
