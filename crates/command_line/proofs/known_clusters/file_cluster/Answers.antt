use Rattle.std.proofs.lemmas.List.Elements.{All-contains}
use Rattle.clap.specs.Words.{found_of, rows_of}
use Rattle.command_line.specs.Options.{IsNamed, cluster_names}
use Rattle.command_line.proofs.known_clusters.file_cluster.Goals as goal

pub returns-in-Some-given-clause-alone : goal.returns-in-Some-given-clause-alone
returns-in-Some-given-clause-alone g c =
    λ option contains. All-contains (λ o. IsNamed (rows_of (found_of c.args.matches.now)) o → ⊥) cluster_names option
    c.in_default.ensures.none contains
