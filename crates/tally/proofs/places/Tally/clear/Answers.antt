use Rattle.std.proofs.Common.{◌≡◌, arith, sym}
use Rattle.std.specs.Prelude.{None, replicate}
use Rattle.std.proofs.lemmas.Grind.{common_steps}
use Rattle.tally.proofs.MaskBits.{mask_none}
use Rattle.tally.proofs.places.Tally.clear.Goals as goal

pub loop-place-preserved : goal.loop-place-preserved
loop-place-preserved g c = grind (arith, common_steps)

pub invariant_of-self : goal.invariant_of-self
invariant_of-self g c =
    let empty : c.loop-place.self-inside.places.items ≡ replicate c.loop-place.place None = grind (arith, common_steps) in (
      omega (arith, c.loop-place.invariant.places, c.self.invariant.0),
      rw empty (sym (mask_none _ c.loop-place.place)),
    )
