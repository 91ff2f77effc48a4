use Rattle.std.proofs.Common.{◌≡◌, [], ◌∷◌, ◌++◌, sym, ap, ◌∙◌}
use Rattle.simulation.proofs.simulation.Simulation.inject_and_keep.Goals as goal

pub returns-clause-done : goal.returns-clause-done
returns-clause-done g c =
    let before : c.self.inside.lies.items ≡ c.args.self.now.lies = ap (λ s. s.lies) c.self.view_is ∙ c.in_ok-inject.ensures.lies in
    let (text, (steps, printed)) = rw (sym (ap (λ s. s.cluster) c.self.view_is)) at c.in_ok-inject.ensures.done in (
      text,
      (
        steps,
        printed,
        c.in_ok-push.ensures.items ∙ ap (λ l. l ++ c.into_bytes.result ∷ []) before
            ∙ ap (λ b. c.args.self.now.lies ++ b ∷ []) c.into_bytes.ensures.1,
      ),
    )
