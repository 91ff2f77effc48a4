use Rattle.scenario_texts.specs.Reading.{two_numbers}
use Rattle.std.proofs.Common.{arith}
use Rattle.std.proofs.lemmas.Grind.{common_steps}
use Rattle.scenario_texts.proofs.fields.two_numbers.Goals as goal

pub returns : goal.returns
unfolding two_numbers
returns c = grind (arith, common_steps)
