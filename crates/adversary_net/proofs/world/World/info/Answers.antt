use Rattle.std.proofs.Common.{◌∙◌}
use Rattle.adversary_net.proofs.AppAnswers.{info_at}
use Rattle.adversary_net.proofs.world.World.info.Goals as goal

pub returns-clause-info : goal.returns-clause-info
returns-clause-info g c =
    c.info.ensures ∙ info_at (g.A.Application.meaning) c.args.self.now c.args.replica c.in_ok-correct.field-0.now c.state.result.now
    c.in_ok-correct.ensures.member
    c.in_ok-correct.ensures.entries c.state.ensures
