use Rattle.std.proofs.Common.{sym, ap, ◌∙◌}
use Rattle.std.specs.Prelude.{nat_lt}
use Rattle.proper_sets.proofs.Counts.{others_counted}
use Rattle.proper_sets.proofs.reported.Absorption.are_all_named.Goals as goal

pub returns : goal.returns
returns c =
    c.has_many.ensures (λ s. s.report.all) c.all.ensures
    ∙ ap (nat_lt c.args.self.now.config.now.faults) (sym (others_counted c.args.self.now.own (λ p. p.all) c.args.self.now.reports.now))
