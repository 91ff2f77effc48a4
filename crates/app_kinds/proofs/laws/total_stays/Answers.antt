use Rattle.app_kinds.proofs.Totals.{total_stays}
use Rattle.app_kinds.proofs.laws.total_stays.Goals as goal

pub returns : goal.returns
returns c = total_stays
