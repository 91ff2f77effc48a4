use Rattle.std.proofs.Crossing.{crosses}
use denote.Param.Send.{IsSend, IsSync, sendable}
use Rattle.cluster_workers.proofs.worker.Worker.TheSendSync as worker
use Rattle.cluster_workers.proofs.stop.Stop.TheSendSync as stop
use Rattle.cluster_workers.proofs.running.fn.run_all.scope.Goals as goal

-- a worker may go to another thread where its application may, and the others may be shared
pub spawn-requires-send-F : goal.spawn-requires-send-F
spawn-requires-send-F g c =
    let app : IsSend g.row.A = search sendable in
    let runtime : IsSync g.row.R = search sendable in
    let clock : IsSync g.row.C = search sendable in
    let gate : IsSync g.row.G = search sendable in
    λ κs lasting. search (worker.the_send, stop.the_sync, sendable, crosses) depth 12
