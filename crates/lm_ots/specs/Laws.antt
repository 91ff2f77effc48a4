-- Laws of one-time signatures, proved from the definitions alone.
use Rattle.std.specs.Prelude.{◌≡◌, ℕ, List}
use Rattle.ledger_model.specs.Signatures.{leaf_key, leaf_signature, leaf_candidate}
use Rattle.lm_ots.specs.declared.params.Params.{Params}
use Rattle.lm_ots.specs.Parameters.{numbers_of}

-- the signature of a message leads to the public value of the leaf that signed it
abbrev pub SignedIsCandidate : Type 0
SignedIsCandidate =
    (p : Params) (id seed : List ℕ) (q : ℕ) (message : List ℕ)
    → leaf_candidate (numbers_of p) id q message (leaf_signature (numbers_of p) id seed q message) ≡ leaf_key (numbers_of p) id seed q
