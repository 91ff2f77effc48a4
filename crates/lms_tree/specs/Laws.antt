-- Laws of the signatures of a tree, proved from the definitions alone.
use Rattle.std.specs.Prelude.{◌≡◌, ◌<◌, ◌^◌, ℕ, List, length, true}
use Rattle.ledger_model.specs.Signatures.{public_key, signature_of, verifies}
use Rattle.lm_ots.specs.declared.params.Params.{Params}
use Rattle.lm_ots.specs.Parameters.{numbers_of}

-- the signature of a message with a leaf verifies under the public key of its tree
abbrev pub SignedVerifies : Type 0
SignedVerifies =
    (p : Params) (id seed : List ℕ) (q : ℕ) (message : List ℕ) → length id ≡ 16 → q < 2 ^ (numbers_of p).height
    → verifies (public_key (numbers_of p) id seed) message (signature_of (numbers_of p) id seed q message) ≡ true
