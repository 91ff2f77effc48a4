use Rattle.scenario_texts.proofs.line_reading.next_by_words.Goals as goal
use Rattle.scenario_texts.specs.Reading.{next_by_words}
use Rattle.std.proofs.Common.{arith}
use Rattle.std.proofs.lemmas.Grind.{common_steps}

pub returns : goal.returns
unfolding next_by_words
returns c = grind (arith, common_steps)

pub returns-in_default : goal.returns-in_default
unfolding next_by_words
returns-in_default c = grind (arith, common_steps)
