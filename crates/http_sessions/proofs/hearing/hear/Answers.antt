use Rattle.std.proofs.Common.{rules, inr}
use Rattle.http_sessions.proofs.Reading.{more_heard, more_read, none_heard, part_heard}
use Rattle.http_sessions.proofs.hearing.hear.Goals as goal
use Rattle.http_sessions.proofs.hearing.hear.Goals.{then-count-eq0, else-count-eq0}

pub returns-then-more-eq0-clause-heard : goal.returns-then-more-eq0-clause-heard
returns-then-more-eq0-clause-heard g c =
    let so_far = c.loop-count.invariant in
    elim c.if-count-eq0.branch [
      | then-count-eq0 w ↦ rw w.result-is
          (none_heard _ _ _ _ c.in_ok-more.more _ c.loop-count.buffer c.read.new.buffer c.loop-count-test.true so_far.same so_far.read
          c.in_ok-more.ensures.bytes
          (search rules) c.if-more-eq0.true w.if-count-eq0.true)
      | else-count-eq0 w ↦ rw w.result-is
          (part_heard _ _ _ _ c.in_ok-more.more _ c.loop-count.buffer c.read.new.buffer c.loop-count-test.true so_far.same so_far.read
          c.in_ok-more.ensures.bytes
          (search rules) c.if-more-eq0.true w.if-count-eq0.false so_far.part)
    ]

pub loop-count-preserved : goal.loop-count-preserved
loop-count-preserved g c =
    let so_far = c.loop-count.invariant in record {
      within = search rules;
      same = search rules;
      read = more_read _ _ _ _ c.in_ok-more.more _ c.loop-count.buffer c.read.new.buffer c.loop-count-test.true so_far.same so_far.read
          c.in_ok-more.ensures.bytes _ c.in_ok-more.ensures.bound.0;
      part =
          inr (c.asked_in-asked.ensures.part (c.is_incomplete.ensures.yes c.if-not-is_incomplete.false));
      counted = search rules;
    }

pub returns-then-not-is_incomplete-clause-heard : goal.returns-then-not-is_incomplete-clause-heard
returns-then-not-is_incomplete-clause-heard g c =
    let so_far = c.loop-count.invariant in
    more_heard _ _ _ _ c.in_ok-more.more _ c.loop-count.buffer c.read.new.buffer c.loop-count-test.true so_far.same so_far.read
    c.in_ok-more.ensures.bytes _ _ c.in_ok-more.ensures.bound.0 (search rules) c.if-more-eq0.false
    c.asked_in-asked.ensures.answers
    (c.is_incomplete.ensures.no c.if-not-is_incomplete.true)
