use Rattle.scenario_texts.specs.Reading.{one_number}
use Rattle.std.proofs.Common.{arith}
use Rattle.std.proofs.lemmas.Grind.{common_steps}
use Rattle.scenario_texts.proofs.fields.one_number.Goals as goal

pub returns : goal.returns
unfolding one_number
returns c = grind (arith, common_steps)
