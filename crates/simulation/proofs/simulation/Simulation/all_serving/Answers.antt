use Rattle.std.proofs.Common.{ap, ◌∙◌}
use Rattle.std.proofs.lemmas.Result.{IfOk-weaker}
use Rattle.simulation.specs.Playing.{all_serving, simulation_of}
use Rattle.simulation.proofs.simulation.Simulation.all_serving.Goals as goal

pub returns-clause-found : goal.returns-clause-found
returns-clause-found g c =
    IfOk-weaker c.all_serving.result _ _
    (λ found is.
    is ∙ ap (λ lies. all_serving (simulation_of c.self.inside.world lies) c.args.lie.now c.args.source) c.deref.ensures.value
    ∙ ap (λ p. all_serving p c.args.lie.now c.args.source) c.self.view_is)
    c.all_serving.ensures.found
