use Rattle.std.proofs.Common.{refl}
use Rattle.scenario_texts.proofs.Sizes.{none_counted}
use Rattle.scenario_texts.proofs.line_count.LineCount.new.Goals as goal

pub returns-clause-none : goal.returns-clause-none
returns-clause-none c = none_counted (record { ended = 0; under_way = 0 }) refl refl
