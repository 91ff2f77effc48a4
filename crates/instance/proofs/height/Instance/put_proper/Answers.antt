use Rattle.std.proofs.Common.{sym}
use Rattle.instance.proofs.SpelledRows.{keeps_proper}
use Rattle.instance.proofs.height.Instance.put_proper.Goals as goal

pub invariant_of-self : goal.invariant_of-self
invariant_of-self c = let i = c.self.invariant
    in (rw (sym c.self.view_is) at c.requires.config, i.1, i.2, i.3, keeps_proper i.4 _ _ (rw (sym c.self.view_is) at c.requires.spelled))
