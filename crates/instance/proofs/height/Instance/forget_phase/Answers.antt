use Rattle.std.proofs.Common.{◌∙◌}
use Rattle.std.specs.Prelude.{None}
use Rattle.std.proofs.lemmas.List.{length-replicate}
use Rattle.instance.proofs.SpelledRows.{forgets}
use Rattle.instance.proofs.height.Instance.forget_phase.Goals as goal

pub invariant_of-self : goal.invariant_of-self
invariant_of-self c =
    let i = c.self.invariant in
    rw (c.clear.ensures, c.clear-2.ensures) (i.0, i.1, length-replicate _ None ∙ i.2, length-replicate _ None ∙ i.3, forgets i.4 _)
