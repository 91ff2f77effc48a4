use Rattle.std.proofs.Common.{◌≡◌, rules}
use Rattle.std.specs.Prelude.{Result, Ok, Err, OnOk}
use Rattle.replica_core.proofs.replay.Replay.propose.Goals as goal
use Rattle.replica_core.proofs.replay.Replay.propose.Goals.{in-Ok, in-Err-2}

-- what holds where a result is Ok
on_ok : {X E P : Type 0} (r : Result X E) (x : X) → r ≡ Ok x → OnOk r P → P
on_ok (Ok y) x e p = p
on_ok (Err f) x e p = cc

-- src/proposing.rt:17:5
pub returns-clause-opened : goal.returns-clause-opened
returns-clause-opened g c = elim c.match-branch-3.branch [
  | in-Ok w ↦ rw w.result-is (on_ok c.in_ok-open.field-0 w.in-Ok.field-0 w.in-Ok.is c.in_ok-open.ensures.matches)
  | in-Err-2 w ↦ rw w.result-is tt
]

pub returns-in-Err-clause-answer : goal.returns-in-Err-clause-answer
returns-in-Err-clause-answer g c = search rules
