-- The argument of a step that returned something.
use Rattle.std.proofs.Common.{◌≡◌, Bool, true, false, cond, refl}
use Rattle.std.specs.Prelude.{Option, Some, None, option_and_then}
use Rattle.std.specs.Option.{option_map}

-- both steps gave something
pub bind_some : {A B : Type 0} (f : A → Option B) (o : Option A) (y : B) → option_and_then f o ≡ Some y
    → (x : A) × ((o ≡ Some x) × (f x ≡ Some y))
bind_some f None y e = absurd cc
bind_some f (Some x) y e = (x, (refl, e))

-- what was mapped
pub map_some : {A B : Type 0} (f : A → B) (o : Option A) (y : B) → option_map f o ≡ Some y → (x : A) × ((o ≡ Some x) × (f x ≡ y))
map_some f None y e = absurd cc
map_some f (Some x) y e = (x, (refl, cc))

-- the test failed
pub unless_some : {A : Type 0} (t : Bool) (x y : A) → cond t None (Some x) ≡ Some y → (t ≡ false) × (x ≡ y)
unless_some true x y e = absurd cc
unless_some false x y e = (refl, cc)
