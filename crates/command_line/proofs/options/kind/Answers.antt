use Rattle.std.proofs.Common.{◌∙◌, sym}
use Rattle.command_line.proofs.options.kind.Goals as goal

pub returns-in-Three-clause-right : goal.returns-in-Three-clause-right
returns-in-Three-clause-right g c = λ meaning given table has.
    c.chosen_kind.ensures.right (g.A.Opening.words.kinds) meaning given table (has (sym c.kinds.ensures ∙ c.in-Three.is))
