-- What is wrong with one value of `keys` is wrong with the table.
use Rattle.std.proofs.Common.{◌≡◌, ℕ, Some, codes}
use Rattle.std.specs.List.{slice_get}
use Rattle.lm_ots.specs.declared.params.Params.{Params}
use Rattle.toml.specs.Data.{Data, Items, Members, array}
use Rattle.cluster_files.specs.FileTables.{spelled_key, spelled_keys}
use Rattle.cluster_files.specs.Descriptions.{HasParams, HasValue}
use Rattle.cluster_files.specs.FileFaults.{IsRightOfItem, IsRightOfTable}
use Rattle.cluster_files.specs.declared.fault.ClusterFileFault.{ClusterFileFault}
use Rattle.cluster_files.specs.declared.fault.ClusterFileFault.TheVariants as fault

pub item_right : (table : Members) (items : Items) (params : Params) (replica : ℕ) (value : Data) (f : ClusterFileFault)
    → HasValue table (codes "keys") (array items) → HasParams table params → slice_get (spelled_keys items) replica ≡ Some (spelled_key value)
    → IsRightOfItem params replica value f → IsRightOfTable table f
item_right table items params replica value (fault.NoKey r) has sized at (same, none) =
    record { items = items; has_keys = has; spells_none = rw (same, ← none) at }
item_right table items params replica value (fault.OtherSizes r) has sized at (same, (key, (spells, other))) =
    record { items = items; has_keys = has; key = key; spells = rw (same, ← spells) at; params = params; has_params = sized; other = other }
item_right table items params replica value f has sized at right = absurd right
