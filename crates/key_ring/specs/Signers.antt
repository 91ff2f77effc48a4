-- A signer as contracts see it, and the effect of one call of `sign`.
use Rattle.std.specs.Prelude.{◌≡◌, ℕ, ◌<◌, ◌≤◌, ◌+◌, ◌^◌, List, Result, Ok, Err}
use Rattle.ledger_model.specs.Signatures.{public_key, signature_of}
use Rattle.lm_ots.specs.Parameters.{numbers_of}
use Rattle.lms_tree.specs.Trees.{Secret}
use Rattle.key_ring.specs.declared.fault.SignFault.{SignFault}
use Rattle.key_ring.specs.declared.fault.SignFault.TheVariants as fault

-- a key pair's secret, and the number of its leaves that are used
pub record SignerView : Type 0 where
  pub secret : Secret
  pub used : ℕ

-- the number of leaves of a key pair (RFC 8554, section 5.1)
abbrev pub leaves_of : Secret → ℕ
leaves_of s = 2 ^ (numbers_of s.params).height

-- the public key of a key pair (section 5.3)
abbrev pub public_key_of : Secret → List ℕ
public_key_of s = public_key (numbers_of s.params) s.identifier s.seed

-- the signature of a message with a leaf (section 5.4)
abbrev pub signed_with : Secret → ℕ → List ℕ → List ℕ
signed_with s leaf message = signature_of (numbers_of s.params) s.identifier s.seed leaf message

-- the next leaf exists, and is used afterwards
abbrev pub UsesLeaf : SignerView → SignerView → Type 0
UsesLeaf old new = (old.used < leaves_of old.secret) × (new ≡ record old { used = old.used + 1 })

-- One call of `sign`, whose signature `view` maps to bytes: it is the signature of the next leaf, which is used even if
-- memory ran out. If no leaf is left, nothing changes.
abbrev pub SignsAs : {X : Type 0} → (X → List ℕ) → SignerView → List ℕ → Result X SignFault → SignerView → Type 0
SignsAs view old message (Ok x) new = (view x ≡ signed_with old.secret old.used message) × UsesLeaf old new
SignsAs view old message (Err fault.Exhausted) new = (leaves_of old.secret ≤ old.used) × (new ≡ old)
SignsAs view old message (Err fault.NoMemory) new = UsesLeaf old new

-- the same for a signature that is given as bytes
abbrev pub Signs : SignerView → List ℕ → Result (List ℕ) SignFault → SignerView → Type 0
Signs old message answer new = SignsAs (λ x. x) old message answer new
