use Rattle.std.proofs.Common.{sym, ap, ◌∙◌}
use Rattle.ledger_model.specs.Applications.{run}
use Rattle.ledger_laws.proofs.laws.machines_on_ledger.Goals as goal

pub returns : goal.returns
returns c = λ meaning config histories ledger machines is_ledger own r m found. own r m found
    ∙ ap (run meaning config.kind) (sym (is_ledger.each r m found))
