use Rattle.std.proofs.Common.{rules, ◌+◌, sym, subst, ap, ◌∙◌}
use Rattle.instance.specs.Plans.{RoundEffectsView, closed}
use Rattle.instance.specs.Laws.{opened_by}
use Rattle.instance.specs.Reads.{IsSameHeight}
use Rattle.ledger_model.specs.declared.config.Config.{Config}
use Rattle.instance.specs.Matching.{MatchesLog, IsSpelled, IsSpelledSet}
use Rattle.instance.proofs.SpelledPlans.{proper_spelled, proper_config}
use Rattle.instance.proofs.AtClock.{closes_at}
use Rattle.instance.proofs.SameHeight.{same_closed}
use Rattle.instance.proofs.height.Instance.close.Goals as goal

pub returns-clause-row : goal.returns-clause-row
unfolding closed
returns-clause-row c = search rules

pub returns-clause-matches : goal.returns-clause-matches
returns-clause-matches c = λ ring log matches clock may signed.
    let row = c.args.self.now in
    subst (λ r. MatchesLog ring r (opened_by row log (c.args.clock + 1) c.args.made))
    (sym (returns-clause-row c ∙ ap (λ e. closed row (c.args.clock + 1) e c.args.made) c.requires.ending))
    (closes_at ring row log c.args.clock matches clock c.args.made c.put_made.ensures.frame may signed)

pub returns-clause-same : goal.returns-clause-same
returns-clause-same c =
    let row = c.args.self.now in
    subst (IsSameHeight row) (sym (returns-clause-row c ∙ ap (λ e. closed row (c.args.clock + 1) e c.args.made) c.requires.ending))
    (same_closed row (c.args.clock + 1) c.args.made)

pub put_proper-requires-clause-config : goal.put_proper-requires-clause-config
put_proper-requires-clause-config c =
    let same = proper_config c.args.self.now (c.args.clock + 1) c.in-Some.proper
    (ap (λ (e : RoundEffectsView). e.proper) (sym c.requires.ending) ∙ (sym c.into_parts-proper.ensures.proper ∙ c.in-Some.is)) in
    search (rules, same)

pub put_proper-requires-clause-spelled : goal.put_proper-requires-clause-spelled
put_proper-requires-clause-spelled c =
    let i = c.self.invariant in
    let spelled : IsSpelled c.args.self.now = rw (sym c.self.view_is) i.4 in
    let made = ap (λ (e : RoundEffectsView). e.proper) (sym c.requires.ending) ∙ (sym c.into_parts-proper.ensures.proper ∙ c.in-Some.is) in
    let same = sym (proper_config c.args.self.now (c.args.clock + 1) c.in-Some.proper made) ∙ put_proper-requires-clause-config c in
    subst (λ (config : Config). IsSpelledSet config.frames c.in-Some.proper.set) same
    (proper_spelled c.args.self.now (c.args.clock + 1) c.in-Some.proper spelled made)
