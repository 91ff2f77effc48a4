use Rattle.std.proofs.Common.{◌≡◌, ◌++◌, suc, length, arith, ap, ◌∙◌, add-one}
use Rattle.std.proofs.lemmas.Grind.{common_steps}
use Rattle.tally.specs.ReportMasks.{with_number, with_numbers}
use Rattle.tally.proofs.report_counts.put_values.Goals as goal

pub loop-index-preserved : goal.loop-index-preserved
loop-index-preserved c = record {
  items = rw add-one (c.put_value.ensures.items
      ∙ ap (with_number c.args.tally.now c.args.signer c.loop-index.index) c.loop-index.invariant.items);
  few = omega (arith, c.put_value.ensures.few, c.loop-index.invariant.few);
  capacity = omega (arith, c.put_value.ensures.capacity, c.loop-index.invariant.capacity);
}

pub returns-clause-items : goal.returns-clause-items
returns-clause-items c =
    let all : c.loop-index.index ≡ suc (length (c.args.report.now.proper ++ c.args.report.now.locked)) =
    grind (arith, common_steps) in
    c.loop-index.invariant.items ∙ ap (λ n. with_numbers c.args.tally.now c.args.signer n c.args.values.now.items) all
