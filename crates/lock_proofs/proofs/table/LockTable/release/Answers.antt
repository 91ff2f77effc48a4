use Rattle.std.proofs.Common.{◌≡◌, rules, not, ap, ◌∙◌, sym}
use Rattle.std.proofs.lemmas.Fn.{filter_same}
use Rattle.lock_proofs.specs.LockTables.{SignedLock, ends_hold, released}
use Rattle.lock_proofs.proofs.TableLaws.{filter-table}
use Rattle.lock_proofs.proofs.table.LockTable.release.Goals as goal

-- what is left in the table
left : (c : goal.After-retain) → c.retain.new.self.items ≡ released c.args.now c.args.read.now.lock c.self.inside.locks.items
left c =
    rw (sym c.lock-read.ensures)
    (filter_same _ (λ (m : SignedLock). not (ends_hold c.args.now c.lock-read.result.now m.lock)) _ (λ x b f' k. search rules) _ _
    c.retain.ensures.filtered)

pub invariant_of-self : goal.invariant_of-self
invariant_of-self c = (
  rw (left c) (filter-table (λ (m : SignedLock). not (ends_hold c.args.now c.args.read.now.lock m.lock)) c.self.inside.locks.items
      (c.self.invariant.0)),
  rw c.retain.ensures.capacity (c.self.invariant.1),
)

pub returns : goal.returns
returns c = left c ∙ ap (released c.args.now c.args.read.now.lock) c.self.view_is
