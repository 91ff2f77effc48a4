-- What the operator's settings say of a run, and what ran.
use Rattle.ledger_model.specs.Meanings.{Meanings}
use Rattle.std.specs.Prelude.{◌≡◌, ℕ, List, Option, option_map, replicate}
use Rattle.cluster_workers.specs.declared.round_clock.Pace.{Pace}
use Rattle.cluster_workers.specs.declared.work_plan.WorkPlan.{WorkPlan}
use Rattle.cluster_workers.specs.RunningClusters.{EndedRunView, RunningClusterView, AreWorkersOf}
use Rattle.cluster_setup.specs.declared.cluster_settings.ClusterSettings.{ClusterSettings}
use Rattle.cluster_setup.specs.declared.cluster_settings.ServeSettings.{ServeSettings}
use Rattle.cluster_service.specs.declared.protocol.Protocol.{Protocol}
use Rattle.cluster_service.specs.declared.protocol.Protocol.TheVariants as protocol
use Rattle.cluster_service.specs.Replicas.{all_begun}

-- what the settings say that each worker is to do
abbrev pub work_plan_of : ClusterSettings → WorkPlan
work_plan_of s = record { rounds = s.rounds; creates_empty_blocks = s.creates_empty_blocks }

-- how long the settings say that rounds last
abbrev pub pace_of : ClusterSettings → Pace
pace_of s = record { base_ms = s.base_ms; is_steady = s.is_steady }

-- The workers of this cluster ran, one for each replica's number, each on the cluster's board; as they began, each had ended no round, and
-- was to do what the settings say. The clock had the settings' pace, and to each replica their
-- transaction had been submitted.
pub record IsRunOf (meaning : Meanings) (s : ClusterSettings) (run : EndedRunView) : Type 0 where
  pub workers : AreWorkersOf run.cluster.board s.cluster.config.replicas s.cluster.config.frames (work_plan_of s) run.workers
  pub pace : run.pace ≡ pace_of s
  pub begun : run.cluster.begun ≡ all_begun meaning s.cluster s.tx

-- how clients were served at one port of 127.0.0.1: the port, what was spoken there, the cluster whose replicas were asked, the seats that
-- clients had, and how many entries of each replica's history they might use together
pub record ServiceView : Type 0 where
  pub port : ℕ
  pub protocol : Protocol
  pub cluster : RunningClusterView
  pub seats : ℕ
  pub entries : List ℕ

-- the service at a port
abbrev pub service_at : Protocol → RunningClusterView → ℕ → List ℕ → ℕ → ServiceView
service_at protocol cluster seats entries port =
    record { port = port; protocol = protocol; cluster = cluster; seats = seats; entries = entries }

-- the services of a cluster: sessions, and HTTP, if it is served
pub record ServicesView : Type 0 where
  pub sessions : ServiceView
  pub http : Option ServiceView

-- the services that the settings ask for, of this cluster, at these ports
abbrev pub services_at : ServeSettings → RunningClusterView → ℕ → Option ℕ → ServicesView
services_at s cluster port http =
    let entries = replicate s.cluster.cluster.config.replicas s.client_entries in
    record {
      sessions = service_at protocol.Sessions cluster s.sessions entries port;
      http = option_map (service_at protocol.Http cluster 1024 entries) http;
    }
