use Rattle.std.proofs.Common.{◌≡◌, ◌≤◌, length, sym, ap, ◌∙◌, arith}
use Rattle.std.specs.Prelude.{Some, None, slice_get}
use Rattle.std.specs.Option.{option_copied}
use Rattle.ledger_model.specs.declared.event.Event.TheVariants as event
use Rattle.ledger_model.specs.declared.world.WorldRefusal.TheVariants as refused
use Rattle.ledger_model.specs.Worlds.{entries_in, frames_sent, passes}
use Rattle.locked_replica.specs.States.{StateView}
use Rattle.adversary_net.specs.WorldViews.{world_of}
use Rattle.adversary_net.proofs.Asking.{refuses, full, passes_none, passes_frame}
use Rattle.adversary_net.proofs.world.World.delivery.Goals as goal
use Rattle.ledger_model.specs.Limits.{max_history_len}

pub returns-in-None-clause-refused : goal.returns-in-None-clause-refused
returns-in-None-clause-refused g c =
    let w = world_of c.args.self.now in
    let none : slice_get (frames_sent (entries_in w c.args.from)) c.args.index ≡ None =
    ap (λ es. slice_get (frames_sent es) c.args.index) c.in_ok-sender.ensures.from ∙ sym c.frame.ensures ∙ ap option_copied c.in-None.is in
    refuses (g.A.Application.meaning) c.args.self.now (passes c.args.self.now.config w c.args.from c.args.index c.args.to)
    refused.NoSuchFrame
    (passes_none c.args.self.now.config w c.args.from c.args.index c.args.to c.in_ok-sender.ensures.no_fault none)

pub returns-in-Some-clause-refused : goal.returns-in-Some-clause-refused
returns-in-Some-clause-refused g c =
    let w = world_of c.args.self.now in
    let some : slice_get (frames_sent (entries_in w c.args.from)) c.args.index ≡ Some c.in-Some.field-0.now =
    ap (λ es. slice_get (frames_sent es) c.args.index) c.in_ok-sender.ensures.from ∙ sym c.frame.ensures ∙ ap option_copied c.in-Some.is in
    let is = passes_frame c.args.self.now.config w c.args.from c.args.index c.args.to c.in-Some.field-0.now c.in_ok-sender.ensures.no_fault
    some in
    let le : max_history_len ≤ length (entries_in w c.args.to) =
    omega (
      arith,
      c.if-len-ge-MAX_ENTRIES.true,
      c.len.ensures.len,
      ap length c.in_ok-sender.ensures.to,
      ap (λ (s : StateView). length s.entries) c.state.ensures,
    ) in
    full (g.A.Application.meaning) c.args.self.now (passes c.args.self.now.config w c.args.from c.args.index c.args.to) c.args.to
    (event.Deliver c.in-Some.field-0.now) is le
