-- The ports that the operator asks for.
use Rattle.std.specs.Prelude.{◌≡◌, ◌⊎◌, ℕ, ⊤, Option, Some, None}

-- a listener at this port was asked for, at any port if it is 0, and there is one at that port
abbrev pub IsAskedPort : ℕ → ℕ → Type 0
IsAskedPort asked port = (asked ≡ 0) ⊎ (port ≡ asked)

-- the same if a port may be asked for: if none is, there is no listener
abbrev pub IsAskedIfAny : Option ℕ → Option ℕ → Type 0
IsAskedIfAny None None = ⊤
IsAskedIfAny (Some asked) (Some port) = IsAskedPort asked port
IsAskedIfAny None (Some port) = ⊥
IsAskedIfAny (Some asked) None = ⊥
