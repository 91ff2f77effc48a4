use Rattle.std.proofs.Common.{sym, rules}
use Rattle.height_row.proofs.HeightSlots.{slots_ascend}
use Rattle.height_row.proofs.OpenRows.{own_rows}
use Rattle.height_row.proofs.row.HeightRow.plan_ends.Goals as goal

pub returns-clause-ascend : goal.returns-clause-ascend
returns-clause-ascend c = rw (sym c.self.view_is) (slots_ascend _ _ _ c.self.inside.slots.items c.self.invariant.1)

pub returns-clause-own : goal.returns-clause-own
returns-clause-own c = rw (sym c.self.view_is) (own_rows _ _ _ c.self.inside.slots.items c.self.invariant.1)

pub returns-clause-plans : goal.returns-clause-plans
returns-clause-plans c = search rules
