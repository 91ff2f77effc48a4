use Rattle.std.proofs.Common.{sym, ap}
use Rattle.std.specs.Prelude.{Some}
use Rattle.instance.proofs.SpelledRows.{keeps_lock}
use Rattle.instance.proofs.height.Instance.put_taken.Goals as goal

pub invariant_of-self : goal.invariant_of-self
invariant_of-self c =
    let i = c.self.invariant in (
      i.0,
      i.1,
      i.2,
      i.3,
      keeps_lock i.4 _ _ _ _ (rw (sym c.self.view_is) at c.requires.fits) (sym c.in-Ok.ensures.full) c.in-Ok.ensures.taken
          (ap Some c.requires.value),
    )
