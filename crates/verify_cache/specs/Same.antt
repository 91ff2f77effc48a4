-- Two checks of the same.
use Rattle.std.specs.Prelude.{◌&&◌, ℕ, Bool, List, nat_eq}
use Rattle.std.specs.Cmp.Lexicographic.{pointwise}
use Rattle.verify_cache.specs.declared.signed.SignedMessage.{SignedMessage}

-- these bytes, by this signer, with this signature
abbrev pub signed_of : ℕ → List ℕ → List ℕ → SignedMessage
signed_of r m s = record { signer = r; message = m; signature = s }

-- the same signer, message and signature
abbrev pub same : SignedMessage → SignedMessage → Bool
same m n = nat_eq m.signer n.signer && (pointwise nat_eq m.message n.message && pointwise nat_eq m.signature n.signature)
