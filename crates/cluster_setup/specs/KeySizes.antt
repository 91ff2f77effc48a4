-- Which public keys are of a parameter set. The type of a cluster's public part cites this, so nothing here names that type.
use Rattle.std.specs.Prelude.{◌≡◌, ℕ, List, Some}
use Rattle.lm_ots.specs.Parameters.{numbers_of}
use Rattle.lm_ots.specs.declared.params.Params.{Params}
use Rattle.lms_tree.specs.Keys.{scheme_of}

-- the two type codes with which the key starts are those of the parameter set (RFC 8554, section 5.3)
abbrev pub HasSizes : Params → List ℕ → Type 0
HasSizes params key = scheme_of key ≡ Some (numbers_of params)
