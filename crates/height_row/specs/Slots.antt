-- The slots of the heights from a floor on, one for each: it has the instance of its height if that height is open.
use Rattle.std.specs.Prelude.{◌≡◌, ℕ, ◌+◌, ◌≤◌, List, Option, Some}
use Rattle.ledger_model.specs.Limits.{max_height}
use Rattle.ledger_model.specs.declared.config.Config.{Config}
use Rattle.instance.specs.Instances.{InstanceView}
use Rattle.tally.specs.Tallies.{read_of}

-- the instance belongs to this replica and this cluster, and is of this height, which is at most the last
abbrev pub IsRowOf : Config → ℕ → ℕ → InstanceView → Type 0
IsRowOf config id h row = (row.config ≡ config) × (row.id ≡ id) × (row.height ≡ h) × (h ≤ max_height)

-- each instance is of the height of its slot
abbrev pub AreSlots : Config → ℕ → ℕ → List (Option InstanceView) → Type 0
AreSlots config id floor slots =
    (place : ℕ) (row : InstanceView) → read_of slots place ≡ Some row → IsRowOf config id (floor + place) row
