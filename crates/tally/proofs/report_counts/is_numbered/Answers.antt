use Rattle.std.proofs.Common.{rules, tests}
use Rattle.std.proofs.lemmas.Iterator.{YieldsList-from_slice}
use Rattle.std.proofs.lemmas.Iterator.Search.{any_from_yields_List}
use Rattle.tally.specs.ReportMasks.{is_of, is_numbered}
use Rattle.tally.proofs.report_counts.is_numbered.Goals as goal

pub returns : goal.returns
unfolding is_numbered
returns c =
    any_from_yields_List (is_of c.args.tally.now c.args.value.now) _ _ _ c.any.ensures.ran
    (YieldsList-from_slice c.args.values.now cc) (λ x b q k. search (rules, tests))
