-- Threads may share a running cluster where its application may go to another thread. The checker finds that by itself of a type without
-- a `Snapshot`.
use Rattle.std.proofs.Crossing.{crosses}
use denote.Param.Send.{IsSend, IsSync, sendable, struct_sync, recorded_sync, view_sync}
use denote.RattleType.{RattleType}
use denote.Struct.Declared.{shape}
use Rattle.abci.specs.declared.application.Application.{Ghosts}
use Rattle.commit_board.proofs.board.Board.TheSendSync as board
use Rattle.key_ring.proofs.ring.KeyRing.TheSendSync as key_ring
use Rattle.ledger_model.proofs.config.Config.TheSendSync as config
use Rattle.locked_replica.proofs.state.State.TheSendSync as state
use Rattle.cluster_workers.proofs.losses.Losses.TheSendSync as losses
use Rattle.cluster_workers.specs.contracts.running_cluster.RunningCluster as cluster
use Rattle.cluster_workers.specs.contracts.running_cluster.RunningCluster.TheInside as inside

module _ (A : RattleType) (g : Ghosts A.Denot) where
  pub cluster_sync : IsSend A → IsSync (cluster.the_row A g)
  cluster_sync s = view_sync (inside.the_row A g) _ _ _ _ (recorded_sync (inside.the_field A g).row _ _ (inside.the_type A g).to_one
      (struct_sync (shape (inside.the_type A g))
      (search (
        state.the_send,
        board.the_send,
        board.the_sync,
        key_ring.the_send,
        key_ring.the_sync,
        losses.the_send,
        losses.the_sync,
        config.the_sync,
        sendable,
        crosses,
      ) depth 14)))
