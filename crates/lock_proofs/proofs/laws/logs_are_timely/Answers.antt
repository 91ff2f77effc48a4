use Rattle.lock_proofs.proofs.TimelyLogs as lemma
use Rattle.lock_proofs.proofs.laws.logs_are_timely.Goals as goal

pub returns : goal.returns
returns c = lemma.logs_are_timely
