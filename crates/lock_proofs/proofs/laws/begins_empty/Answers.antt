use Rattle.lock_proofs.proofs.TimelyLogs as lemma
use Rattle.lock_proofs.proofs.laws.begins_empty.Goals as goal

pub returns : goal.returns
returns c = lemma.begins_empty
