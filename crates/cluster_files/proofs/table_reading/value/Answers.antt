use Rattle.std.proofs.Common.{sym}
use Rattle.toml.proofs.Views.{table_get}
use Rattle.cluster_files.proofs.table_reading.value.Goals as goal

pub returns-in-Some-clause-some : goal.returns-in-Some-clause-some
returns-in-Some-clause-some c =
    let found = table_get c.get.result c.args.name.now c.args.table.now.entries c.get.ensures.value in
    sym (rw c.in-Some.is at found)

pub returns-in-None-clause-right : goal.returns-in-None-clause-right
returns-in-None-clause-right c =
    let found = table_get c.get.result c.args.name.now c.args.table.now.entries c.get.ensures.value in
    (c.requires, sym (rw c.in-None.is at found))
