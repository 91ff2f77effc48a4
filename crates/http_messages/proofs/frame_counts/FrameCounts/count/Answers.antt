use Rattle.std.proofs.Common.{refl, arith}
use Rattle.http_messages.proofs.Counting.{counts_one}
use Rattle.http_messages.proofs.frame_counts.FrameCounts.count.Goals as goal

pub returns-in-Ok-clause-accepted : goal.returns-in-Ok-clause-accepted
returns-in-Ok-clause-accepted c = rw c.in-Ok.is c.saturating_add-self.ensures

pub returns-in-Ok-clause-ignored : goal.returns-in-Ok-clause-ignored
returns-in-Ok-clause-ignored c = λ cause. rw c.in-Ok.is refl

pub returns-in-Err-clause-accepted : goal.returns-in-Err-clause-accepted
returns-in-Err-clause-accepted c = rw c.in-Err.is refl

pub returns-in-Err-clause-ignored : goal.returns-in-Err-clause-ignored
returns-in-Err-clause-ignored c = λ cause.
    rw c.in-Err.is (counts_one c.args.self.now.ignored c.in-Err.cause cause c.place_of-place.result c.saturating_add.result
    c.place_of-place.ensures.place (grind arith) c.saturating_add.ensures)
