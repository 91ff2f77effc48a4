use Rattle.std.proofs.Common.{rules, tests}
use Rattle.std.specs.Prelude.{◌==◌, ◌&&◌}
use Rattle.std.proofs.lemmas.Iterator.{YieldsList-from_slice}
use Rattle.std.proofs.lemmas.Iterator.Search.{all_from_yields_List}
use Rattle.lock_proofs.proofs.checks.are_of_its_phase.Goals as goal

pub returns : goal.returns
returns c =
    all_from_yields_List (λ s. (s.report.height == c.args.lock.now.height) && (s.report.phase == c.args.lock.now.phase)) _ _ _
    c.all.ensures.ran
    (YieldsList-from_slice c.args.reports.now cc) (λ x b q k. search (rules, tests))
