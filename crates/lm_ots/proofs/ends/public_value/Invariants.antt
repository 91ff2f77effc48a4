-- the hasher holds the ends so far
use Rattle.std.proofs.Common.{◌++◌, List, ℕ, take}
use Rattle.std.specs.Int.{w16, w32, to_be_bytes}
use Rattle.std.specs.List.{flat_map}
use Rattle.sha2.specs.Hashers.{Holds256}
use Rattle.lm_ots.proofs.ends.public_value.Given as goal

abbrev pub invariant-loop-end : goal.invariant-loop-end
invariant-loop-end l = Holds256 l.hasher (l.identifier ++ to_be_bytes w32 l.leaf ++ to_be_bytes w16 0x8080
    ++ flat_map (λ (end : List ℕ). end) (take l.end-index l.ends))
