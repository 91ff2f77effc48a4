use Rattle.std.proofs.Common.{rules, tests}
use Rattle.std.proofs.lemmas.Iterator.{YieldsList-from_slice}
use Rattle.std.proofs.lemmas.Iterator.Search.{all_from_yields_List}
use Rattle.ledger_model.specs.Locks.{finds}
use Rattle.lock_proofs.proofs.checks.is_supporting.Goals as goal

pub returns : goal.returns
returns c =
    all_from_yields_List (λ s. finds s.report c.args.lock.now.value) _ _ _ c.all.ensures.ran
    (YieldsList-from_slice c.args.lock.now.proof cc) (λ x b q k. search (rules, tests))
