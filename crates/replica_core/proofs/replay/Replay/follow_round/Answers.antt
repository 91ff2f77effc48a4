use Rattle.std.proofs.Common.{List, sym, ap, subst, ◌∙◌}
use Rattle.std.specs.Prelude.{Ok}
use Rattle.ledger_model.specs.declared.event.Event.TheVariants as event
use Rattle.ledger_model.specs.declared.reply.Reply.TheVariants as reply
use Rattle.ledger_model.specs.declared.reply.Sent.{Sent}
use Rattle.instance.specs.Plans.{IsOwnMade}
use Rattle.height_row.specs.declared.round_closing.RoundClosing.{RoundClosing}
use Rattle.replica_core.specs.PreparedEnds.{PreparedView, after_prepared}
use Rattle.replica_core.specs.Replays.{ReplayView}
use Rattle.replica_core.specs.ShownEnds.{AreShownAlike}
use Rattle.replica_core.proofs.Endings.{of_images}
use Rattle.replica_core.proofs.Followed.{refused}
use Rattle.replica_core.proofs.ShownRounds.{mades, speaks_again, compared_end}
use Rattle.replica_core.proofs.replay.Replay.follow_round.Goals as goal

-- it was mute, and says that it is not
pub returns-then-not-stays_mute-clause-followed : goal.returns-then-not-stays_mute-clause-followed
returns-then-not-stays_mute-clause-followed g c =
    speaks_again (g.A.Application.meaning) c.args.self.now c.args.ended.now (c.stays_mute.ensures.was c.if-not-stays_mute.true)
    (c.stays_mute.ensures.says c.if-not-stays_mute.true)

-- what is shown may not be made
pub returns-in_default-clause-followed : goal.returns-in_default-clause-followed
returns-in_default-clause-followed g c =
    refused (g.A.Application.meaning) c.args.self.now c.args.self.now event.RoundEnd (reply.RoundEnded (Ok c.args.ended.now))
    (rw c.in_default.is at c.in_ok-closings.ensures.shown)

pub prepare_round-requires-clause-endings : goal.prepare_round-requires-clause-endings
prepare_round-requires-clause-endings g c = rw c.in-Some.is at c.in_ok-closings.ensures.endings

pub prepare_round-requires-clause-own : goal.prepare_round-requires-clause-own
prepare_round-requires-clause-own g c =
    let shown = rw c.in-Some.is at c.in_ok-closings.ensures.shown in
    of_images (IsOwnMade c.args.self.now.config c.args.self.now.id) (λ (x : RoundClosing). x.made) c.in-Some.closings.items shown.own

-- its frames are compared
pub returns-clause-followed : goal.returns-clause-followed
returns-clause-followed g c =
    let held : ReplayView = c.args.self.now in
    let shown = rw c.in-Some.is at c.in_ok-closings.ensures.shown in
    let is = c.in_ok-prepared.ensures.prepared in
    compared_end (g.A.Application.meaning) held c.args.ended.now c.in_ok-endings.ensures.limits c.requires.clock c.finish_round-due.new.self
    (mades c.in-Some.closings.items)
    c.finish_round-due.result c.is_same_frames.result (c.stays_mute.ensures.stays c.if-not-stays_mute.false) shown
    (c.finish_round-due.ensures.reply ∙ ap (λ (p : PreparedView). p.ended) is)
    (c.finish_round-due.ensures.after ∙ ap (after_prepared held) is)
    (λ same. sym c.as_slice.ensures ∙ c.is_same_frames.ensures.same same ∙ c.as_slice-2.ensures)
    (λ alike. c.is_same_frames.ensures.only
    (subst (λ (xs : List Sent). AreShownAlike xs c.as_slice-2.result.now) (sym c.as_slice.ensures)
    (subst (AreShownAlike c.finish_round-due.result.frames) (sym c.as_slice-2.ensures) alike)))
