use Rattle.std.proofs.Common.{ap, sym, subst, rules, arith}
use Rattle.std.proofs.lemmas.Grind.{common_steps}
use Rattle.std.specs.Prelude.{Err}
use Rattle.adversary_net.specs.Openings.{MayLie}
use Rattle.program.proofs.OpeningLemmas.{may_lie, not_too_many}
use Rattle.program.proofs.opening.new_simulation.Goals as goal

pub unreachable-requires : goal.unreachable-requires
unreachable-requires g c =
    let s = c.args.scenario.now in
    let may = subst (λ l. MayLie s.setup.config l) (sym c.deref-2.ensures.value) (may_lie (g.A.Opening.words.kinds) s c.requires) in
    not_too_many s.setup.config c.deref-2.result.now may
    (c.in-Err-TooManyLiars.ensures.too_many.0 (ap Err c.in-Err-TooManyLiars.field-0-is))

pub returns-in-Ok-clause-opening : goal.returns-in-Ok-clause-opening
returns-in-Ok-clause-opening g c = search rules

pub unreachable-requires-in-Err-NoSuchReplica : goal.unreachable-requires-in-Err-NoSuchReplica
unreachable-requires-in-Err-NoSuchReplica g c = grind (arith, common_steps)
