use Rattle.std.proofs.Common.{rules}
use Rattle.instance.proofs.height.Instance.take_lock.Goals as goal

pub returns-then-not-has_room_for-clause-answer : goal.returns-then-not-has_room_for-clause-answer
returns-then-not-has_room_for-clause-answer c = search rules

pub returns-then-not-has_room_for-clause-after : goal.returns-then-not-has_room_for-clause-after
returns-then-not-has_room_for-clause-after c = search rules
