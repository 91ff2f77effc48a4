use Rattle.std.proofs.Common.{◌≡◌, rules}
use Rattle.std.proofs.lemmas.Result.{err_from_is_err_and}
use Rattle.ledger_model.specs.declared.event.Event.TheVariants as event
use Rattle.ledger_model.specs.Worlds.{asks, event_of}
use Rattle.adversary_net.specs.WorldViews.{world_of}
use Rattle.adversary_net.proofs.Asking.{no_memory}
use Rattle.adversary_net.proofs.world.World.event_of.Goals as goal

pub returns-in_err-room-in-Submit : goal.returns-in_err-room-in-Submit
unfolding event_of
returns-in_err-room-in-Submit g c =
    let p = err_from_is_err_and c.from_residual.result c.from_residual.ensures.1 in
    rw (c.in-Submit.is, p.1, p.2) (c.in_err-room-in-Submit.ensures.refused (event.Submit c.in-Submit.bytes))

pub returns-in_err-room-in-Propose : goal.returns-in_err-room-in-Propose
unfolding event_of
returns-in_err-room-in-Propose g c =
    let p = err_from_is_err_and c.from_residual-in_err-room-in-Propose.result c.from_residual-in_err-room-in-Propose.ensures.1 in
    rw (c.in-Propose.is, p.1, p.2) (c.in_err-room-in-Propose.ensures.refused (event.Propose c.in-Propose.height))

pub returns-in_err-room-in-RoundEnd : goal.returns-in_err-room-in-RoundEnd
unfolding event_of
returns-in_err-room-in-RoundEnd g c =
    let p = err_from_is_err_and c.from_residual-in_err-room-in-RoundEnd.result c.from_residual-in_err-room-in-RoundEnd.ensures.1 in
    rw (c.in-RoundEnd.is, p.1, p.2) (c.in_err-room-in-RoundEnd.ensures.refused (event.RoundEnd))

pub returns-in_err-room-in-Execute : goal.returns-in_err-room-in-Execute
unfolding event_of
returns-in_err-room-in-Execute g c =
    let p = err_from_is_err_and c.from_residual-in_err-room-in-Execute.result c.from_residual-in_err-room-in-Execute.ensures.1 in
    rw (c.in-Execute.is, p.1, p.2) (c.in_err-room-in-Execute.ensures.refused (event.Execute))

pub returns-in_err-room-in-Query : goal.returns-in_err-room-in-Query
unfolding event_of
returns-in_err-room-in-Query g c =
    let p = err_from_is_err_and c.from_residual-in_err-room-in-Query.result c.from_residual-in_err-room-in-Query.ensures.1 in
    rw (c.in-Query.is, p.1, p.2) (c.in_err-room-in-Query.ensures.refused (event.Query c.in-Query.key c.in-Query.height))

pub returns-in_err-room-in-Retire : goal.returns-in_err-room-in-Retire
unfolding event_of
returns-in_err-room-in-Retire g c =
    let p = err_from_is_err_and c.from_residual-in_err-room-in-Retire.result c.from_residual-in_err-room-in-Retire.ensures.1 in
    rw (c.in-Retire.is, p.1, p.2) (c.in_err-room-in-Retire.ensures.refused (event.Retire c.in-Retire.floor))

pub returns-in_err-room-in-Inject : goal.returns-in_err-room-in-Inject
unfolding event_of
returns-in_err-room-in-Inject g c =
    let p = err_from_is_err_and c.from_residual-in_err-room-in-Inject.result c.from_residual-in_err-room-in-Inject.ensures.1 in
    rw (c.in-Inject.is, p.1, p.2) (c.in_err-room-in-Inject.ensures.refused (event.Deliver c.in-Inject.bytes))

pub returns-in_err-delivery-in-Pass : goal.returns-in_err-delivery-in-Pass
unfolding event_of
returns-in_err-delivery-in-Pass g c =
    let p = err_from_is_err_and c.from_residual-in_err-delivery-in-Pass.result c.from_residual-in_err-delivery-in-Pass.ensures.1 in
    rw (c.in-Pass.is, p.1, p.2) c.in_err-delivery-in-Pass.ensures.refused

pub returns-in_default : goal.returns-in_default
unfolding event_of
returns-in_default g c =
    rw c.in-Submit.is (no_memory (g.A.Application.meaning) c.args.self.now
    (asks c.args.self.now.config (world_of c.args.self.now) c.in-Submit.replica (event.Submit c.in-Submit.bytes)) c.in-Submit.replica
    (event.Submit c.in-Submit.bytes) (c.in_ok-room-in-Submit.ensures.ready (event.Submit c.in-Submit.bytes)))

pub returns-in_default-copy : goal.returns-in_default-copy
unfolding event_of
returns-in_default-copy g c =
    rw c.in-Query.is (no_memory (g.A.Application.meaning) c.args.self.now
    (asks c.args.self.now.config (world_of c.args.self.now) c.in-Query.replica (event.Query c.in-Query.key c.in-Query.height))
    c.in-Query.replica (event.Query c.in-Query.key c.in-Query.height)
    (c.in_ok-room-in-Query.ensures.ready (event.Query c.in-Query.key c.in-Query.height)))

pub returns-in_default-clone : goal.returns-in_default-clone
unfolding event_of
returns-in_default-clone g c =
    rw c.in-Inject.is (no_memory (g.A.Application.meaning) c.args.self.now
    (asks c.args.self.now.config (world_of c.args.self.now) c.in-Inject.to (event.Deliver c.in-Inject.bytes)) c.in-Inject.to
    (event.Deliver c.in-Inject.bytes) (c.in_ok-room-in-Inject.ensures.ready (event.Deliver c.in-Inject.bytes)))

pub returns-in_ok-room-in-Propose : goal.returns-in_ok-room-in-Propose
unfolding event_of
returns-in_ok-room-in-Propose g c = rw c.in-Propose.is (c.in_ok-room-in-Propose.ensures.ready (event.Propose c.in-Propose.height))

pub returns-in_ok-room-in-RoundEnd : goal.returns-in_ok-room-in-RoundEnd
unfolding event_of
returns-in_ok-room-in-RoundEnd g c = rw c.in-RoundEnd.is (c.in_ok-room-in-RoundEnd.ensures.ready (event.RoundEnd))

pub returns-in_ok-room-in-Execute : goal.returns-in_ok-room-in-Execute
unfolding event_of
returns-in_ok-room-in-Execute g c = rw c.in-Execute.is (c.in_ok-room-in-Execute.ensures.ready (event.Execute))

pub returns-in_ok-room-in-Retire : goal.returns-in_ok-room-in-Retire
unfolding event_of
returns-in_ok-room-in-Retire g c = rw c.in-Retire.is (c.in_ok-room-in-Retire.ensures.ready (event.Retire c.in-Retire.floor))

pub returns-in-Ok : goal.returns-in-Ok
unfolding event_of
returns-in-Ok g c =
    let same : c.in-Ok.bytes ≡ c.in-Submit.bytes = search rules in
    rw (c.in-Submit.is, same) (c.in_ok-room-in-Submit.ensures.ready (event.Submit c.in-Submit.bytes))

pub returns-in-Ok-copy : goal.returns-in-Ok-copy
unfolding event_of
returns-in-Ok-copy g c =
    let same : c.in-Ok-copy.key ≡ c.in-Query.key = search rules in
    rw (c.in-Query.is, same) (c.in_ok-room-in-Query.ensures.ready (event.Query c.in-Query.key c.in-Query.height))

pub returns-in-Ok-clone : goal.returns-in-Ok-clone
unfolding event_of
returns-in-Ok-clone g c =
    let same : c.in-Ok-clone.bytes ≡ c.in-Inject.bytes = search rules in
    rw (c.in-Inject.is, same) (c.in_ok-room-in-Inject.ensures.ready (event.Deliver c.in-Inject.bytes))

pub returns-in_ok-delivery-in-Pass : goal.returns-in_ok-delivery-in-Pass
unfolding event_of
returns-in_ok-delivery-in-Pass g c = rw c.in-Pass.is c.in_ok-delivery-in-Pass.ensures.ready
