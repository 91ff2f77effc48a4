use Rattle.cluster_files.proofs.Refusals.{table_of}
use Rattle.cluster_files.proofs.SameClusters.{one_cluster}
use Rattle.cluster_files.proofs.laws.describes_one.Goals as goal

pub returns : goal.returns
returns c = λ text a b described other. one_cluster described.table a b described.says (table_of text described.table b described.parsed other)
