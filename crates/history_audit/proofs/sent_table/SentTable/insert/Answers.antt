use Rattle.std.proofs.Common.{sym}
use Rattle.indexmap.specs.IndexSet.{keys}
use Rattle.history_audit.proofs.Tables.{gains_one}
use Rattle.history_audit.proofs.sent_table.SentTable.insert.Goals as goal
use Rattle.history_audit.proofs.sent_table.SentTable.insert.Goals.{in-Ok, in-Err}

pub returns : goal.returns
returns c =
    elim c.match-insert_full.branch [
      | in-Ok w ↦ rw (w.result-is, sym c.self.view_is, w.in-Ok.ensures.keys) (gains_one
          (keys c.self.inside.sent) c.args.replica c.args.statement)
      | in-Err w ↦ rw (w.result-is) tt
    ]
