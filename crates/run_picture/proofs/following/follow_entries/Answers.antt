use Rattle.std.proofs.Common.{◌≡◌, ◌≤◌, not, length, take, sym, subst, ap, refl, ◌∙◌, inl, inr, arith, append-nil, length-take-le, take_all}
use Rattle.ledger_model.specs.declared.history.Entry.{Entry}
use Rattle.ledger_model.specs.Lawful.{Replay, ReplaysFrom}
use Rattle.ledger_model.proofs.Lists.{take_item}
use Rattle.replica_core.specs.Replays.{MatchesHistory}
use Rattle.history_follower.proofs.FollowedReplays.{replay_more, replay_ends, same_later}
use Rattle.run_picture.specs.declared.following.ReplayMarks.{ReplayMarks}
use Rattle.run_picture.proofs.FollowedMarks.{decided_more, retired_more, all_followed}
use Rattle.run_picture.proofs.following.follow_entries.Goals as goal

pub loop-index-init : goal.loop-index-init
unfolding Replay ReplaysFrom
loop-index-init g c = (
  c.requires.first,
  tt,
  c.requires.kept,
  record { config = refl; id = refl; ring = refl },
  sym (append-nil c.args.marks.now.decisions.items),
  sym (append-nil c.args.marks.now.retired.items),
)

pub loop-index-preserved : goal.loop-index-preserved
loop-index-preserved g c =
    let i = c.loop-index.index in
    let entries = c.args.entries.now in
    let e : Entry = c.index-entries-index.result in
    let a = c.args.follower.now.replay in
    let b = c.loop-index.follower.replay in
    let before = c.loop-index.invariant in
    let split = take_item entries i e c.loop-index-test.true c.index-entries-index.is in
    let follows = c.in_ok-follow_entry.ensures.follows in
    let yes = c.if-not-branch.false in
    let count : length (take i entries) ≡ i = length-take-le i entries (let inside = c.loop-index-test.true in omega (arith, inside)) in (
      subst (MatchesHistory (g.A.Application.meaning) c.follow_entry.new.follower.replay) (sym split)
          (follows.matches yes (take i entries) (before.0)),
      subst (Replay (g.A.Application.meaning) a.config a.ring a.id) (sym split)
          (replay_more (g.A.Application.meaning) a b (take i entries) e (before.3) (before.1)
          ((follows.exact (take i entries) (before.0)).0 yes)),
      follows.lost ∙ ap not yes,
      same_later a b c.follow_entry.new.follower.replay (before.3) (c.follow_entry.ensures.same),
      decided_more a b c.args.part.now entries i e c.args.marks.now.decisions.items c.loop-index.marks.decisions.items
          c.follow_entry.new.marks.decisions.items (before.3) split (before.4) (follows.decisions yes (take i entries) (before.0) count),
      retired_more a b c.args.part.now entries i e c.args.marks.now.retired.items c.loop-index.marks.retired.items
          c.follow_entry.new.marks.retired.items (before.3) split (before.5) (follows.retired yes (take i entries) (before.0) count),
    )

pub returns-then-not-branch-clause-follows : goal.returns-then-not-branch-clause-follows
returns-then-not-branch-clause-follows g c =
    let i = c.loop-index.index in
    let entries = c.args.entries.now in
    let e : Entry = c.index-entries-index.result in
    let before = c.loop-index.invariant in
    let follows = c.in_ok-follow_entry.ensures.follows in
    let split = take_item entries i e c.loop-index-test.true c.index-entries-index.is in
    let stops = replay_ends (g.A.Application.meaning) c.args.follower.now.replay c.loop-index.follower.replay entries i e
    c.in_ok-follow_entry.field-0
    (before.3) c.loop-index-test.true split (before.1) (follows.exact (take i entries) (before.0)) c.if-not-branch.true in
    record {
      longest = record {
        inside = let inside = c.loop-index-test.true in omega (arith, inside);
        replay = before.1;
        ends = inr stops.broken;
      };
      decisions = ap (λ (m : ReplayMarks). m.decisions.items) (follows.left c.if-not-branch.true) ∙ before.4;
      retired = ap (λ (m : ReplayMarks). m.retired.items) (follows.left c.if-not-branch.true) ∙ before.5;
    }

pub returns-clause-follows : goal.returns-clause-follows
returns-clause-follows g c =
    let before = c.loop-index.invariant in
    all_followed (g.A.Application.meaning) c.args.follower.now.replay c.args.part.now c.args.entries.now c.loop-index.index c.args.marks.now
    c.loop-index.marks
    c.loop-index-test.false (before.1) (before.4) (before.5)
