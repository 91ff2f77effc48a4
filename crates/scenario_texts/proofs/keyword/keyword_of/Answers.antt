use Rattle.scenario_texts.proofs.keyword.keyword_of.Goals as goal
use Rattle.scenario_texts.specs.Reading.{keyword_of}
use Rattle.std.proofs.Common.{ap, sym}

pub returns-in-config : goal.returns-in-config
unfolding keyword_of
returns-in-config c = ap keyword_of (sym c.in-config.is)

pub returns-in-keys : goal.returns-in-keys
unfolding keyword_of
returns-in-keys c = ap keyword_of (sym c.in-keys.is)

pub returns-in-frames : goal.returns-in-frames
unfolding keyword_of
returns-in-frames c = ap keyword_of (sym c.in-frames.is)

pub returns-in-liar : goal.returns-in-liar
unfolding keyword_of
returns-in-liar c = ap keyword_of (sym c.in-liar.is)

pub returns-in-submit : goal.returns-in-submit
unfolding keyword_of
returns-in-submit c = ap keyword_of (sym c.in-submit.is)

pub returns-in-propose : goal.returns-in-propose
unfolding keyword_of
returns-in-propose c = ap keyword_of (sym c.in-propose.is)

pub returns-in-end : goal.returns-in-end
unfolding keyword_of
returns-in-end c = ap keyword_of (sym c.in-end.is)

pub returns-in-pass : goal.returns-in-pass
unfolding keyword_of
returns-in-pass c = ap keyword_of (sym c.in-pass.is)

pub returns-in-inject : goal.returns-in-inject
unfolding keyword_of
returns-in-inject c = ap keyword_of (sym c.in-inject.is)

pub returns-in-execute : goal.returns-in-execute
unfolding keyword_of
returns-in-execute c = ap keyword_of (sym c.in-execute.is)

pub returns-in-query : goal.returns-in-query
unfolding keyword_of
returns-in-query c = ap keyword_of (sym c.in-query.is)

pub returns-in-retire : goal.returns-in-retire
unfolding keyword_of
returns-in-retire c = ap keyword_of (sym c.in-retire.is)

pub returns-in-info : goal.returns-in-info
unfolding keyword_of
returns-in-info c = ap keyword_of (sym c.in-info.is)

pub returns-in-silent : goal.returns-in-silent
unfolding keyword_of
returns-in-silent c = ap keyword_of (sym c.in-silent.is)

pub returns-in-round : goal.returns-in-round
unfolding keyword_of
returns-in-round c = ap keyword_of (sym c.in-round.is)

pub returns-in-text : goal.returns-in-text
unfolding keyword_of
returns-in-text c = ap keyword_of (sym c.in-text.is)

pub returns-in-text-2 : goal.returns-in-text-2
unfolding keyword_of
returns-in-text-2 c = ap keyword_of (sym c.in-text-2.is)

pub returns-in-text-3 : goal.returns-in-text-3
unfolding keyword_of
returns-in-text-3 c = ap keyword_of (sym c.in-text-3.is)
