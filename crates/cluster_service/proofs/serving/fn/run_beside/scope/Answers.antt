use Rattle.std.proofs.Crossing.{crosses}
use denote.Param.Send.{IsSync, sendable}
use Rattle.cluster_service.proofs.Crossing.{server_send}
use Rattle.cluster_service.proofs.serving.fn.run_beside.scope.Goals as goal

-- a server may go to another thread where its application may, and the runtime may be shared
pub spawn-requires-in-Some-send-F : goal.spawn-requires-in-Some-send-F
spawn-requires-in-Some-send-F g c =
    let app = c.requires.app in
    let runtime : IsSync g.row.R = search sendable in
    λ κs lasting. search (server_send, sendable, crosses) depth 16

pub spawn-requires-2-send-F : goal.spawn-requires-2-send-F
spawn-requires-2-send-F g c =
    let app = c.requires.app in
    let runtime : IsSync g.row.R = search sendable in
    λ κs lasting. search (server_send, sendable, crosses) depth 16
