-- Which values of this crate with a `Snapshot` may go to another thread: where their application may, and threads may share the runtime.
-- The checker finds that by itself of a type without a `Snapshot`.
use Rattle.std.proofs.Crossing.{crosses}
use Rattle.std.proofs.option.Option.TheSendSync as option
use denote.Param.Send.{IsSend, IsSync, sendable, struct_send, recorded_send, view_send}
use denote.RattleType.{RattleType}
use denote.Ref.{NamedLft}
use denote.Struct.Declared.{shape}
use Rattle.abci.specs.declared.application.Application.{Ghosts}
use Rattle.commit_board.proofs.seats.ReaderSeat.TheSendSync as reader
use Rattle.cluster_workers.proofs.Crossing.{cluster_sync}
use Rattle.cluster_workers.proofs.stop.Stop.TheSendSync as stop
use Rattle.cluster_service.proofs.budgets.ClientBudget.TheSendSync as budget
use Rattle.cluster_service.proofs.door.Door.TheSendSync as door
use Rattle.cluster_service.specs.contracts.live_targets.LiveTargets as targets
use Rattle.cluster_service.specs.contracts.listening.Connection as connection
use Rattle.cluster_service.specs.contracts.listening.Seat as seat
use Rattle.cluster_service.specs.contracts.servers.Server as server
use Rattle.cluster_service.specs.contracts.servers.Server.TheInside as server_inside

module _ (A R : RattleType) (g : Ghosts A.Denot) where
  module _ (a : NamedLft) where
    pub targets_field_send : IsSend A → IsSync R → IsSend (targets.the_field a A R g).row
    targets_field_send app runtime = struct_send (shape (targets.the_type a A R g))
        (search (cluster_sync, budget.the_sync, reader.the_send, stop.the_sync, option.the_field_send, sendable, crosses) depth 14)

    pub seat_field_send : IsSend A → IsSync R → IsSend (seat.the_field a A R g).row
    seat_field_send app runtime = struct_send (shape (seat.the_type a A R g))
        (search (targets_field_send, sendable, crosses) depth 14)

  module _ (a b : NamedLft) where
    pub server_send : IsSend A → IsSync R → IsSend (server.the_row a b A R g)
    server_send app runtime = view_send (server_inside.the_row a b A R g) _ _ _ _
        (recorded_send (server_inside.the_field a b A R g).row _ _ (server_inside.the_type a b A R g).to_one
        (struct_send (shape (server_inside.the_type a b A R g))
        (search (seat_field_send, cluster_sync, budget.the_sync, door.the_sync, sendable, crosses) depth 16)))

  module _ (a r f d s : NamedLft) where
    pub connection_send : IsSend A → IsSync R → IsSend (connection.the_row a r f d s A R g)
    connection_send app runtime = recorded_send (connection.the_field a r f d s A R g).row _ _ (connection.the_type a r f d s A R g).to_one
        (struct_send (shape (connection.the_type a r f d s A R g))
        (search (seat_field_send, door.the_sync, sendable, crosses) depth 16))
