use Rattle.std.proofs.Common.{◌∙◌, ap}
use Rattle.std.specs.List.{position}
use Rattle.indexmap.specs.IndexSet.{keys}
use Rattle.ledger_model.specs.Values.{same_bytes}
use Rattle.locked_replica.proofs.Found.{found_at}
use Rattle.locked_replica.proofs.string_table.StringTable.position_of.Goals as goal

pub returns-clause-position : goal.returns-clause-position
returns-clause-position c = found_at c.args.self.now c.args.bytes.now c.get_index_of.result (
    c.get_index_of.ensures.index ∙ ap (λ b. position (same_bytes b) (keys c.self.inside.strings)) c.in_ok-clone.ensures.cases
    ∙ ap (position (same_bytes c.args.bytes.now)) c.self.view_is
    )
