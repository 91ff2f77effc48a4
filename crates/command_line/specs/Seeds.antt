-- The seed that a file has.
use Rattle.std.specs.Prelude.{◌≡◌, ◌⊎◌, ℕ, List, [], ◌∷◌, ◌++◌, length, Ok}
use Rattle.hex.specs.Hex.{decode_sized}

-- the bytes are the 64 hexadecimal digits of the seed, and maybe a line feed
abbrev pub SpellsSeed : List ℕ → List ℕ → Type 0
SpellsSeed bytes seed =
    (decode_sized bytes 32 ≡ Ok seed) ⊎ ((digits : List ℕ) × ((bytes ≡ digits ++ 10 ∷ []) × (decode_sized digits 32 ≡ Ok seed)))

-- the bytes are the seed, or spell it
abbrev pub IsSeedIn : List ℕ → List ℕ → Type 0
IsSeedIn bytes seed = ((length bytes ≡ 32) × (seed ≡ bytes)) ⊎ SpellsSeed bytes seed
