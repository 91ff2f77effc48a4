use Rattle.std.proofs.Common.{◌≡◌, ◌+◌, ◌<◌, length, sym, subst, arith}
use Rattle.std.specs.Prelude.{IfSome}
use Rattle.ledger_model.specs.Spelling.{IsStatement}
use Rattle.instance.specs.Plans.{MaySend, IsOwnStatement}
use Rattle.instance.specs.Matching.{IsSpelled}
use Rattle.instance.proofs.AtClock.{allows_at, chooses_at, signed_at}
use Rattle.instance.proofs.SpelledPlans.{chosen_spelled_as, chosen_own_statement}
use Rattle.instance.proofs.height.Instance.plan_end.Goals as goal

pub returns-clause-may : goal.returns-clause-may
returns-clause-may c = λ ring log matches clock.
    let may = subst (MaySend c.args.self.now (c.args.clock + 1)) (sym c.in_ok-chosen_statement.ensures)
    (chooses_at ring c.args.self.now log c.args.clock matches clock) in
    allows_at ring c.args.self.now log c.args.clock matches clock _ may

pub returns-clause-proofs : goal.returns-clause-proofs
returns-clause-proofs c = λ ring log matches clock.
    let may = subst (MaySend c.args.self.now (c.args.clock + 1)) (sym c.in_ok-chosen_statement.ensures)
    (chooses_at ring c.args.self.now log c.args.clock matches clock) in
    signed_at ring c.args.self.now log c.args.clock matches clock _ may

pub returns-clause-own : goal.returns-clause-own
returns-clause-own c =
    subst (λ o. IfSome o (IsOwnStatement c.args.self.now)) (sym c.in_ok-chosen_statement.ensures)
    (chosen_own_statement c.args.self.now (c.args.clock + 1))

pub returns-clause-spelled : goal.returns-clause-spelled
returns-clause-spelled c =
    let i = c.self.invariant in
    let spelled : IsSpelled c.args.self.now = rw (sym c.self.view_is) i.4 in
    let member : c.args.self.now.id < c.args.self.now.config.replicas = rw (sym c.self.view_is) i.1 in
    let places : length c.args.self.now.reports ≡ c.args.self.now.config.replicas = rw (sym c.self.view_is) i.2 in
    subst (λ o. IfSome o IsStatement) (sym c.in_ok-chosen_statement.ensures)
    (chosen_spelled_as c.args.self.now spelled member places (c.args.clock + 1) (omega arith) (omega (arith, c.requires.clock)))
