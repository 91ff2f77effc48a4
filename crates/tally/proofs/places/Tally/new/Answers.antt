use Rattle.std.proofs.Common.{◌≡◌, arith, rules, sym}
use Rattle.std.specs.Prelude.{None, replicate}
use Rattle.std.proofs.lemmas.Grind.{common_steps}
use Rattle.tally.proofs.MaskBits.{mask_none}
use Rattle.tally.proofs.places.Tally.new.Goals as goal

pub loop-init : goal.loop-init
loop-init g c = search rules

pub invariant_of-result : goal.invariant_of-result
invariant_of-result g c =
    let empty : c.loop.places.items ≡ replicate c.loop.counter None = c.loop.invariant in
    (grind (arith, common_steps), rw empty (sym (mask_none _ c.loop.counter)))

pub loop-preserved : goal.loop-preserved
loop-preserved g c = grind (arith, common_steps)
