use Rattle.std.proofs.Common.{◌≡◌, ◌++◌, [], not, true, cond, sym, ap, subst, ◌∙◌}
use Rattle.std.specs.List.{flat_map}
use Rattle.ledger_model.specs.Commits.{decision_at}
use Rattle.ledger_model.specs.Lawful.{is_opened}
use Rattle.replica_core.specs.Facts.{undecided_heights}
use Rattle.replica_core.specs.Replays.{ReplayView, MatchesHistory}
use Rattle.run_picture.specs.Decisions.{mark_if}
use Rattle.run_picture.proofs.FollowedEntries.{not_followed, followed}
use Rattle.run_picture.proofs.following.follow_entry.Goals as goal

pub returns-then-not-branch-clause-follows : goal.returns-then-not-branch-clause-follows
returns-then-not-branch-clause-follows g c =
    not_followed (g.A.Application.meaning) c.args.part.now c.args.index c.args.entry.now c.args.follower.now c.follow.new.self
    c.args.marks.now
    (λ front m keeps.
    let yes : c.in_ok-follow.field-0 ≡ true = (c.in_ok-follow.ensures.exact c.requires front m).1 keeps in
    let no = c.if-not-branch.true in cc)
    (c.in_ok-follow.ensures.lost ∙ ap not c.if-not-branch.true)

pub returns-clause-follows : goal.returns-clause-follows
returns-clause-follows g c =
    let was = c.replay-replay.ensures in
    let is = c.replay-replay-2.ensures in
    followed (g.A.Application.meaning) c.args.part.now c.args.index c.args.entry.now c.args.follower.now c.follow.new.self c.args.marks.now
    _ c.id-replica.result
    c.from-clock.result c.number-floor.result c.number-raised.result c.in_ok-heights.heights.items c.follow.ensures.same
    (λ front m. c.in_ok-follow.ensures.matches c.if-not-branch.false front m)
    (c.id-replica.ensures.id ∙ ap (λ (s : ReplayView). s.id) was)
    (λ front m. c.clock.ensures.same front (subst (λ s. MatchesHistory (g.A.Application.meaning) s front) (sym was) m)
    ∙ sym c.from-clock.ensures)
    (λ front m. c.floor.ensures.same front (subst (λ s. MatchesHistory (g.A.Application.meaning) s front) (sym was) m)
    ∙ sym c.number-floor.ensures)
    (λ entries m. c.floor-2.ensures.same entries (subst (λ s. MatchesHistory (g.A.Application.meaning) s entries) (sym is) m)
    ∙ sym c.number-raised.ensures)
    (λ front m. c.in_ok-heights.ensures front (subst (λ s. MatchesHistory (g.A.Application.meaning) s front) (sym was) m)
    ∙ ap (λ (s : ReplayView). cond (is_opened c.args.entry.now.reply) (undecided_heights s.config s.id front) []) was)
    (λ entries m. c.in_ok-add_decisions.ensures entries (subst (λ s. MatchesHistory (g.A.Application.meaning) s entries) (sym is) m)
    ∙ ap (λ (s : ReplayView). c.args.marks.now.decisions.items
    ++ flat_map (λ h. mark_if c.args.part.now c.id-replica.result c.args.index c.from-clock.result h (decision_at s.config s.id entries h))
    c.deref.result.now) is
    ∙ ap (λ hs. c.args.marks.now.decisions.items
    ++ flat_map (λ h. mark_if c.args.part.now c.id-replica.result c.args.index c.from-clock.result h
    (decision_at c.follow.new.self.replay.config c.follow.new.self.replay.id entries h)) hs) c.deref.ensures.value)
    c.in_ok-add_heights.ensures
    (λ front m. (c.in_ok-follow.ensures.exact c.requires front m).0 c.if-not-branch.false)
    (c.in_ok-follow.ensures.lost ∙ ap not c.if-not-branch.false)
