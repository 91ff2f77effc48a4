use Rattle.std.proofs.lemmas.Result.{err_from_is_err_and}
use Rattle.toml.specs.View.{table_view}
use Rattle.cluster_files.proofs.Refusals.{only_cluster, only_memory, table_of}
use Rattle.cluster_files.proofs.reading.read.Goals as goal

pub returns-in_err-table-clause-only : goal.returns-in_err-table-clause-only
returns-in_err-table-clause-only c =
    λ cluster described.
    let p = err_from_is_err_and c.from_residual.result c.from_residual.ensures.1 in
    rw (p.1, p.2) (only_memory c.args.text.now cluster c.in_err-table.field-0.0 c.in_err-table.ensures.right described)

pub returns-clause-only : goal.returns-clause-only
returns-clause-only c =
    λ cluster described.
    let table = table_view c.in_ok-table.table in
    only_cluster table cluster c.cluster.result (table_of c.args.text.now table cluster c.in_ok-table.ensures.some described)
    c.cluster.ensures.ok c.cluster.ensures.right
