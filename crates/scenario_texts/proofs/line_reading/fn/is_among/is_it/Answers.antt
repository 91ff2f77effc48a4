use Rattle.scenario_texts.proofs.line_reading.fn.is_among.is_it.Goals as goal
use Rattle.std.proofs.Common.{rules}

pub returns : goal.returns
returns c = search rules
