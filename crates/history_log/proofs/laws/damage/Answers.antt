use Rattle.history_log.proofs.LawProofs as law
use Rattle.history_log.proofs.laws.damage.Goals as goal

pub returns-clause-longer : goal.returns-clause-longer
returns-clause-longer c = law.longer_is_damage

pub returns-clause-length : goal.returns-clause-length
returns-clause-length c = law.changed_length_is_damage

pub returns-clause-impossible : goal.returns-clause-impossible
returns-clause-impossible c = law.impossible_length_is_damage
