use Rattle.std.proofs.Common.{◌∙◌, sym}
use Rattle.program.proofs.StreamEnds.{whole_stands, cut_stands}
use Rattle.program.proofs.frame_stream.end_of.Goals as goal

pub returns-then-is_between-clause-stands : goal.returns-then-is_between-clause-stands
returns-then-is_between-clause-stands c = λ input given kept reading splits.
    whole_stands c.args.frames.now.version c.args.frames.now.state input kept given (c.is_between.ensures.0 c.if-is_between.true) reading
    splits

pub returns-else-is_between-clause-stands : goal.returns-else-is_between-clause-stands
returns-else-is_between-clause-stands c = λ input given kept reading splits.
    cut_stands c.args.frames.now.version c.args.frames.now.state input kept given (λ between. let same =
    sym c.if-is_between.false ∙ c.is_between.ensures.1 between in absurd cc) reading splits
