use Rattle.std.proofs.Common.{sym, rules}
use Rattle.height_row.proofs.HeightSlots.{slots_ascend, rows_found}
use Rattle.height_row.proofs.OpenRows.{own_rows}
use Rattle.height_row.proofs.row.HeightRow.instances.Goals as goal

pub returns-clause-ascend : goal.returns-clause-ascend
returns-clause-ascend c = rw (sym c.self.view_is) (slots_ascend _ _ _ c.self.inside.slots.items c.self.invariant.1)

pub returns-clause-found : goal.returns-clause-found
returns-clause-found c = rw (sym c.self.view_is) (rows_found _ _ _ c.self.inside.slots.items c.self.invariant.1)

pub returns-clause-own : goal.returns-clause-own
returns-clause-own c = rw (sym c.self.view_is) (own_rows _ _ _ c.self.inside.slots.items c.self.invariant.1)

pub returns-clause-rows : goal.returns-clause-rows
returns-clause-rows c = search rules
