use Rattle.std.proofs.Common.{◌∙◌, ap}
use Rattle.toml.specs.View.{members_view, table_view, view}
use Rattle.cluster_files.specs.FileTables.{with_member}
use Rattle.cluster_files.proofs.TableViews.{with_member-view}
use Rattle.cluster_files.proofs.writing.put.Goals as goal

pub returns : goal.returns
returns c =
    ap members_view c.in_ok-insert.ensures.entries ∙ with_member-view c.args.table.now.entries c.in_ok-name.name c.args.value
    ∙ ap (λ name. with_member name (view c.args.value) (table_view c.args.table.now)) c.in_ok-name.ensures.ok
