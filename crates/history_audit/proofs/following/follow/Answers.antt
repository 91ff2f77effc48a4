use Rattle.std.proofs.Common.{not, take, sym, subst, ap, refl, ◌∙◌}
use Rattle.ledger_model.specs.declared.history.Entry.{Entry}
use Rattle.ledger_model.specs.Lawful.{Replay, ReplaysFrom}
use Rattle.ledger_model.proofs.Lists.{take_item}
use Rattle.replica_core.specs.Replays.{MatchesHistory}
use Rattle.history_follower.proofs.FollowedReplays.{replay_more, replay_ends, same_later}
use Rattle.history_audit.proofs.following.follow.Goals as goal

pub loop-index-init : goal.loop-index-init
unfolding Replay ReplaysFrom
loop-index-init g c = (c.requires.first, tt, c.requires.kept, record { config = refl; id = refl; ring = refl })

pub loop-index-preserved : goal.loop-index-preserved
loop-index-preserved g c =
    let i = c.loop-index.index in
    let entries = c.args.entries.now in
    let e : Entry = c.index-entries-index.result in
    let a = c.args.follower.now.replay in
    let b = c.loop-index.follower.replay in
    let before = c.loop-index.invariant in
    let split = take_item entries i e c.loop-index-test.true c.index-entries-index.is in
    let exact = c.in_ok-follow.ensures.exact (before.2) (take i entries) (before.0) in (
      subst (MatchesHistory (g.A.Application.meaning) c.follow.new.self.replay) (sym split)
          (c.in_ok-follow.ensures.matches c.if-not-branch.false (take i entries) (before.0)),
      subst (Replay (g.A.Application.meaning) a.config a.ring a.id) (sym split)
          (replay_more (g.A.Application.meaning) a b (take i entries) e (before.3) (before.1) (exact.0 c.if-not-branch.false)),
      c.in_ok-follow.ensures.lost ∙ ap not c.if-not-branch.false,
      same_later a b c.follow.new.self.replay (before.3) (c.follow.ensures.same),
    )

pub returns-then-not-branch-clause-answer : goal.returns-then-not-branch-clause-answer
returns-then-not-branch-clause-answer g c =
    let i = c.loop-index.index in
    let entries = c.args.entries.now in
    let e : Entry = c.index-entries-index.result in
    let before = c.loop-index.invariant in
    let split = take_item entries i e c.loop-index-test.true c.index-entries-index.is in
    replay_ends (g.A.Application.meaning) c.args.follower.now.replay c.loop-index.follower.replay entries i e c.in_ok-follow.field-0
    (before.3) c.loop-index-test.true split
    (before.1) (c.in_ok-follow.ensures.exact (before.2) (take i entries) (before.0)) c.if-not-branch.true
