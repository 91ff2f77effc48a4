use Rattle.std.proofs.Common.{sym, ap, ◌∙◌}
use Rattle.std.specs.Prelude.{nat_lt}
use Rattle.ledger_model.specs.Locks.{names}
use Rattle.proper_sets.proofs.Counts.{others_counted}
use Rattle.proper_sets.proofs.reported.Absorption.is_named.Goals as goal

pub returns : goal.returns
returns c = λ v masks.
    c.has_many.ensures (λ s. names s.report v) (c.naming.ensures v masks)
    ∙ ap (nat_lt c.args.self.now.config.now.faults)
    (sym (others_counted c.args.self.now.own (λ p. names p v) c.args.self.now.reports.now))
