-- Nothing verifies under bytes that are no public key.
use Rattle.std.proofs.Common.{◌≡◌, ℕ, List, false, length, refl}
use Rattle.std.specs.Prelude.{◌≢◌, ◌↔◌, None, Err, IsErrOf}
use Rattle.ledger_model.specs.Signatures.{verifies}
use Rattle.lms_tree.specs.Keys.{scheme_of}
use Rattle.lms_tree.specs.declared.key.KeyFault.{KeyFault}
use Rattle.lms_tree.specs.declared.key.KeyFault.TheVariants as fault
use Rattle.lms_tree.proofs.Checks.{no_key-length, no_key-scheme}

pub verifies-no_key : {K : Type 0} (key message signature : List ℕ) (e : KeyFault)
    → (IsErrOf {T = K} (Err e) fault.Length ↔ (length key ≢ 56))
    → (IsErrOf {T = K} (Err e) fault.Scheme ↔ ((length key ≡ 56) × (scheme_of key ≡ None)))
    → false ≡ verifies key message signature
verifies-no_key key message signature fault.Length short unknown = no_key-length key message signature (short.0 refl)
verifies-no_key key message signature fault.Scheme short unknown = no_key-scheme key message signature (unknown.0 refl).1
