use Rattle.scenario_texts.proofs.fields.three_numbers.Goals as goal
use Rattle.scenario_texts.specs.Reading.{three_numbers}
use Rattle.std.proofs.Common.{arith}
use Rattle.std.proofs.lemmas.Grind.{common_steps}

pub returns : goal.returns
unfolding three_numbers
returns c = grind (arith, common_steps)

pub returns-in_default : goal.returns-in_default
unfolding three_numbers
returns-in_default c = grind (arith, common_steps)

pub returns-in_default-2 : goal.returns-in_default-2
unfolding three_numbers
returns-in_default-2 c = grind (arith, common_steps)

pub returns-in_err-number : goal.returns-in_err-number
unfolding three_numbers
returns-in_err-number c = grind (arith, common_steps)

pub returns-in_err-number-2 : goal.returns-in_err-number-2
unfolding three_numbers
returns-in_err-number-2 c = grind (arith, common_steps)

pub returns-in_err-number-3 : goal.returns-in_err-number-3
unfolding three_numbers
returns-in_err-number-3 c = grind (arith, common_steps)
