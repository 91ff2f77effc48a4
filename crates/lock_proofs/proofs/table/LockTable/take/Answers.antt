use Rattle.std.proofs.Common.{◌≡◌, false, arith, rules}
use Rattle.lock_proofs.specs.LockTables.{with_lock, has_four_others}
use Rattle.lock_proofs.specs.Tables.{IsTable}
use Rattle.lock_proofs.proofs.TableLaws.{with_lock-table}
use Rattle.lock_proofs.proofs.table.LockTable.take.Goals as goal

pub put-requires : goal.put-requires
put-requires c =
    let room : has_four_others c.args.lock.lock.value c.self.inside.locks.items ≡ false = search rules in
    let table : IsTable (with_lock c.args.lock c.self.inside.locks.items) =
    with_lock-table c.args.lock c.self.inside.locks.items (c.self.invariant.0) room in
    omega (arith, table.few, c.self.invariant.1)

pub invariant_of-self : goal.invariant_of-self
invariant_of-self c =
    let room : has_four_others c.args.lock.lock.value c.self.inside.locks.items ≡ false = search rules in (
      rw c.put.ensures.items (with_lock-table c.args.lock c.self.inside.locks.items (c.self.invariant.0) room),
      rw c.put.ensures.capacity (c.self.invariant.1),
    )
