-- Masks over replicas: bit r is one exactly where replica r passes.
use Rattle.std.specs.Prelude.{ℕ, Bool, true, false, map}
use Rattle.std.specs.Option.{option_map_or}
use Rattle.std.specs.Simd.Lanes.{mask_l}
use Rattle.tally.specs.Tallies.{Places}

-- the mask of the replicas of which something was read that passes the test
unfoldable pub mask_of : {X : Type 0} → (X → Bool) → Places X → ℕ
mask_of test places = mask_l (map (λ place. option_map_or test place false) places)

-- the mask of the replicas of which something was read
abbrev pub mask_read : {X : Type 0} → Places X → ℕ
mask_read places = mask_of (λ x. true) places
