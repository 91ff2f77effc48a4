use Rattle.std.proofs.Common.{◌<◌, true, subst, sym, ◌∙◌}
use Rattle.ledger_model.specs.Limits.{last_round}
use Rattle.replica_core.specs.Cores.{CoreView}
use Rattle.replica_core.proofs.Endings.{mute_own, mute_step, end_prepared}
use Rattle.replica_core.proofs.replica.Core.prepare_mute.Goals as goal

pub prepare_round-requires-clause-endings : goal.prepare_round-requires-clause-endings
prepare_round-requires-clause-endings g c = c.in_ok-closings.ensures.endings ∙ c.in_ok-endings.ensures.endings

pub prepare_round-requires-clause-own : goal.prepare_round-requires-clause-own
prepare_round-requires-clause-own g c = mute_own c.self.inside.replay.config c.self.inside.replay.id c.in_ok-closings.closings.items
    c.in_ok-closings.ensures.nothing

pub returns-clause-prepared : goal.returns-clause-prepared
returns-clause-prepared g c =
    let early = subst (λ (x : CoreView). x.replay.clock < last_round) (sym c.self.view_is) c.requires.clock in
    let ends = mute_step (g.A.Application.meaning) c.self.inside.replay c.self.inside.signer c.in_ok-closings.closings.items
    c.in_ok-endings.ensures.limits early
    (c.in_ok-closings.ensures.endings ∙ c.in_ok-endings.ensures.endings) c.in_ok-closings.ensures.nothing in
    rw (sym c.self.view_is)
    (end_prepared (g.A.Application.meaning) c.self.inside.replay c.self.inside.signer c.self.inside.signer true
    c.in_ok-closings.closings.items
    c.prepare_round.result c.prepare_round.ensures.prepared c.prepare_round.ensures.ready ends.0 ends.1)
