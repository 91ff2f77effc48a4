use Rattle.lock_proofs.proofs.TimelyLogs as lemma
use Rattle.lock_proofs.proofs.laws.stays_timely.Goals as goal

pub returns : goal.returns
returns c = lemma.stays_timely
