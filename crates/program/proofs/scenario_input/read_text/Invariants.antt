-- the text is what was read so far, its lines are counted, and it is not too large
use Rattle.std.specs.Io.KnownBytes.{Consumes}
use Rattle.scenario_texts.specs.Lines.{HasLines, IsTooLarge}
use Rattle.program.proofs.scenario_input.read_text.Given as goal

abbrev pub invariant-loop : goal.invariant-loop
invariant-loop g l = record {
  read : Consumes (g.R.Read.remaining l.initial.reader) (g.R.Read.remaining l.reader) l.text.items;
  counted : HasLines l.text.items l.lines;
  fits : IsTooLarge l.text.items → ⊥;
}
