-- What `abft keys` has written, by how its write ended.
use Rattle.std.proofs.Common.{ℕ, List, inr}
use Rattle.std.specs.Prelude.{Option, Result, Ok, Err}
use Rattle.byte_streams.specs.Writing.{Writes}
use Rattle.cluster_setup.specs.declared.cluster_seed.ClusterSeed.{ClusterSeed}
use Rattle.program.specs.Publishing.{IsFileOf, WritesFile}

pub file_written : {T E : Type 0} (cluster : ClusterSeed) (r : Result T E) (before after : Option (List ℕ)) (text : List ℕ) → IsFileOf cluster text
    → Writes r before after text → WritesFile cluster r before after
file_written cluster (Ok x) before after text file written = (text, (file, written))
file_written cluster (Err e) before after text file written = (text, (inr file, written))
