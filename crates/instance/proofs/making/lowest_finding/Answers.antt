use Rattle.std.proofs.Common.{arith}
use Rattle.std.proofs.lemmas.Grind.{common_steps}
use Rattle.ledger_model.specs.Locks.{finds}
use Rattle.instance.proofs.LowestSigners.{passed_more}
use Rattle.instance.proofs.making.lowest_finding.Goals as goal

pub loop-place-preserved : goal.loop-place-preserved
loop-place-preserved c =
    let more = passed_more (λ s. finds s.report c.args.value.now) c.args.places.now c.loop-place.place-index c.place-item.result
    c.loop-place-test.true c.place-item.is in
    grind (arith, common_steps)

pub returns : goal.returns
returns c = grind (arith, common_steps)
