use Rattle.std.proofs.Crossing.{crosses}
use denote.Param.Send.{IsSend, IsSync, sendable}
use Rattle.cluster_service.proofs.Crossing.{connection_send}
use Rattle.cluster_service.proofs.listening.fn.listen.scope.Goals as goal

-- a connection may go to another thread where its application may, and the runtime may be shared
pub spawn-requires-send-F : goal.spawn-requires-send-F
spawn-requires-send-F g c =
    let app : IsSend g.row.A = search sendable in
    let runtime : IsSync g.row.R = search sendable in
    λ κs lasting. search (connection_send, sendable, crosses) depth 12
