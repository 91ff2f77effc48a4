use Rattle.std.proofs.Common.{◌≡◌, ◌+◌, List, ap, subst, sym, ◌∙◌}
use Rattle.std.specs.Prelude.{map}
use Rattle.std.specs.List.{flat_map}
use Rattle.ledger_model.specs.declared.reply.Sent.{Sent}
use Rattle.instance.specs.Plans.{opened_effects}
use Rattle.replica_core.specs.PreparedEnds.{IsPreparedFor}
use Rattle.replica_core.specs.Replays.{ReplayView}
use Rattle.replica_core.specs.Sending.{frames_of_closing}
use Rattle.replica_core.proofs.ClosingFrames.{frames_of-closings}
use Rattle.replica_core.proofs.Endings.{ready_of}
use Rattle.replica_core.proofs.replay.Replay.prepare_round.Goals as goal

pub returns-clause-prepared : goal.returns-clause-prepared
returns-clause-prepared g c =
    let endings = subst (λ (x : ReplayView). map (λ c. c.ending) c.args.closings.items ≡ map (λ row. opened_effects row (x.clock + 1)) x.rows)
    (sym c.self.view_is) c.requires.endings in
    rw (sym c.self.view_is)
    (ap (λ (frames : List Sent). record { closings = c.args.closings.items; ended = record { mute = c.args.mute; frames = frames } })
    (c.new.ensures ∙ c.in_ok-frames.ensures ∙ ap (flat_map (frames_of_closing c.self.inside.config)) c.deref.ensures.value
    ∙ sym (frames_of-closings c.self.inside.config (c.self.inside.clock + 1) c.self.inside.rows.rows c.args.closings.items endings)))

pub returns-clause-ready : goal.returns-clause-ready
returns-clause-ready g c = subst (IsPreparedFor c.args.self.now) (sym (returns-clause-prepared g c))
    (ready_of c.args.self.now c.args.mute c.args.closings.items c.requires.clock c.requires.endings c.requires.own)
