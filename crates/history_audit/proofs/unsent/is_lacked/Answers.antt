use Rattle.std.proofs.Common.{◌≡◌, ℕ, false, not, List, refl, sym, ap, ◌∙◌}
use Rattle.std.specs.Prelude.{Option, Some, None, is_some}
use Rattle.ledger_model.specs.declared.history.History.{History}
use Rattle.ledger_model.specs.Groups.{history_of}
use Rattle.ledger_model.specs.Audits.{lacks}
use Rattle.history_audit.proofs.Searching.{lacks_by}
use Rattle.history_audit.proofs.unsent.is_lacked.Goals as goal

-- a history that wasn't handed in lacks nothing
lacks_nothing : (o : Option History) (bytes : List ℕ) → is_some o ≡ false → false ≡ lacks o bytes
lacks_nothing None bytes none = refl
lacks_nothing (Some m) bytes none = cc

pub returns-then-not-has_history : goal.returns-then-not-has_history
returns-then-not-has_history c =
    lacks_nothing (history_of c.args.histories.now c.args.replica) c.args.statement.now (sym c.has_history.ensures
    ∙ c.if-not-has_history.true)

pub returns : goal.returns
returns c =
    ap not c.in_ok-has.ensures
    ∙ lacks_by c.args.histories.now c.args.table.now c.args.replica c.args.statement.now c.requires.table c.requires.different
    (sym c.has_history.ensures ∙ c.if-not-has_history.false)
