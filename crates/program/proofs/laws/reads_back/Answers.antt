use Rattle.std.proofs.Common.{subst}
use Rattle.cluster_files.proofs.Refusals.{table_of}
use Rattle.cluster_files.proofs.SameClusters.{one_cluster}
use Rattle.cluster_setup.specs.KnownClusters.{IsPublicOf}
use Rattle.program.proofs.laws.reads_back.Goals as goal

pub returns : goal.returns
returns c = λ seed text public (written, (is, same, described)) other. subst (IsPublicOf seed)
    (one_cluster described.table written public described.says (table_of text described.table public described.parsed other)) is
