use Rattle.std.proofs.Common.{arith}
use Rattle.std.proofs.lemmas.Grind.{common_steps}
use Rattle.instance.proofs.height.Instance.holds_just.Goals as goal

pub loop-place-preserved : goal.loop-place-preserved
loop-place-preserved c = grind (arith, common_steps)

pub returns : goal.returns
returns c = grind (arith, common_steps)

pub returns-then-ne : goal.returns-then-ne
returns-then-ne c = grind (arith, common_steps)

pub returns-then-values-held : goal.returns-then-values-held
returns-then-values-held c = grind (arith, common_steps)
