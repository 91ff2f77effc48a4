use Rattle.std.proofs.Crossing.{crosses}
use denote.Param.Send.{IsSync, sendable, struct_sync, recorded_sync}
use denote.RattleType.{RattleType}
use denote.Ref.{NamedLft}
use denote.Struct.Declared.{shape}
use Rattle.app_kinds.proofs.any_kind.AnyKind.TheSendSync as any_kind
use Rattle.cluster_workers.proofs.Crossing.{cluster_sync}
use Rattle.running_tests.proofs.history_gate.Taken.TheSendSync as taken
use Rattle.running_tests.specs.contracts.history_gate.HistoryGate as gate
use Rattle.running_tests.proofs.audit_tests.run.Goals as goal

-- threads may share the gate, which lends a running cluster, where they may share the runtime
gate_sync : (a : NamedLft) (R : RattleType) → IsSync R → IsSync (gate.the_row a R)
gate_sync a R runtime = recorded_sync (gate.the_field a R).row _ _ (gate.the_type a R).to_one
    (struct_sync (shape (gate.the_type a R)) (search (cluster_sync, any_kind.the_send, taken.the_send, sendable, crosses) depth 16))

pub run_all-ran-requires-sync-G : goal.run_all-ran-requires-sync-G
run_all-ran-requires-sync-G g c =
    let runtime : IsSync g.row.R = search sendable in
    search (gate_sync, sendable, crosses) depth 12
