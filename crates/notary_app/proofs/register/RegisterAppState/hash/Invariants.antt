-- so far the first byte was hashed, the number of digests, and the digests up to the index
use Rattle.std.proofs.Common.{◌∷◌, ◌++◌, length, take}
use Rattle.std.specs.Int.{w64, to_be_bytes}
use Rattle.std.specs.List.{flat_map}
use Rattle.sha2.specs.Hashers.{Holds256}
use Rattle.notary_app.proofs.register.RegisterAppState.hash.Given as goal

abbrev pub invariant-loop-digest : goal.invariant-loop-digest
invariant-loop-digest l =
    Holds256 l.hasher (0x80 ∷ to_be_bytes w64 (length l.digest-items) ++ flat_map (λ d. d) (take l.digest-index l.digest-items))
