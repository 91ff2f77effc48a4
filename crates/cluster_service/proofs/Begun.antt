-- A replica to which a transaction was submitted, and to which nothing else happened.
use Rattle.ledger_model.specs.Meanings.{Meanings}
use Rattle.std.proofs.Common.{◌≡◌, ◌<◌, ℕ, zero, suc, List, [], ◌∷◌, ◌++◌, refl, ap, ◌∙◌, map, arith}
use Rattle.std.specs.List.{range_with_len}
use Rattle.ledger_model.specs.declared.config.Config.{Config}
use Rattle.ledger_model.specs.declared.event.Event.TheVariants as event
use Rattle.ledger_model.specs.declared.reply.Reply.{Reply}
use Rattle.ledger_model.specs.declared.reply.Reply.TheVariants as reply
use Rattle.ledger_model.specs.Applications.{run}
use Rattle.ledger_model.specs.Commits.{commits_of}
use Rattle.ledger_model.specs.Lawful.{Lawful, clock_at}
use Rattle.locked_replica.specs.States.{StateView, RunsAlone, keys_in}
use Rattle.replica_core.specs.Steps.{UsesLeaves}
use Rattle.cluster_setup.specs.declared.cluster_seed.ClusterSeed.{ClusterSeed}
use Rattle.cluster_setup.specs.Keys.{ring_of}
use Rattle.cluster_workers.specs.RunningClusters.{first_ring}
use Rattle.cluster_service.specs.Replicas.{all_begun, begun, submitted}

-- the new replica is the old one with this entry more
pub record Goes (meaning : Meanings) (old new : StateView) (tx : List ℕ) (answer : Reply) : Type 0 where
  pub added : new.entries ≡ old.entries ++ record { event = event.Submit tx; reply = answer } ∷ []
  pub lawful : Lawful meaning old.config old.ring old.id old.entries (event.Submit tx) answer
  pub uses : UsesLeaves (keys_in old) (clock_at old.entries) answer (keys_in new)
  pub rest : new ≡ record old { used = new.used; entries = new.entries; machine = new.machine }
  pub alone : RunsAlone meaning new

no_blocks : (meaning : Meanings) (cluster : ClusterSeed) (tx : List ℕ) (r id : ℕ)
    → commits_of cluster.config id (submitted meaning cluster tx r) ≡ []
unfolding commits_of
no_blocks meaning cluster tx r id = refl

pub first_goes : (meaning : Meanings) (cluster : ClusterSeed) (tx : List ℕ) (id : ℕ) (new : StateView) (answer : Reply)
    → Goes meaning (begun meaning cluster [] id) new tx answer → new ≡ begun meaning cluster (submitted meaning cluster tx id) id
unfolding RunsAlone
first_goes meaning cluster tx id new (reply.Submitted r) goes =
    let entries : new.entries ≡ submitted meaning cluster tx id =
    goes.added ∙ ap (λ a. record { event = event.Submit tx; reply = reply.Submitted a } ∷ []) goes.lawful in
    let used : new.used ≡ 0 = ap (λ k. k.used) goes.uses in
    let config : new.config ≡ cluster.config = ap (λ (x : StateView). x.config) goes.rest in
    let own : new.id ≡ id = ap (λ (x : StateView). x.id) goes.rest in
    let machine : new.machine ≡ run meaning cluster.config.kind [] =
    goes.alone
    ∙ ap (λ (x : Config). run meaning x.kind (commits_of x new.id new.entries)) config
    ∙ ap (λ i. run meaning cluster.config.kind (commits_of cluster.config i new.entries)) own
    ∙ ap (λ l. run meaning cluster.config.kind (commits_of cluster.config id l)) entries
    ∙ ap (run meaning cluster.config.kind) (no_blocks meaning cluster tx id id) in
    goes.rest
    ∙ ap (λ n. record (begun meaning cluster [] id) { used = n; entries = new.entries; machine = new.machine }) used
    ∙ ap (λ l. record (begun meaning cluster [] id) { used = 0; entries = l; machine = new.machine }) entries
    ∙ ap (λ m. record (begun meaning cluster [] id) { used = 0; entries = submitted meaning cluster tx id; machine = m }) machine
first_goes meaning cluster tx id new (reply.Proposed r) goes = absurd goes.lawful
first_goes meaning cluster tx id new (reply.Delivered r) goes = absurd goes.lawful
first_goes meaning cluster tx id new (reply.RoundEnded r) goes = absurd goes.lawful
first_goes meaning cluster tx id new (reply.Executed r) goes = absurd goes.lawful
first_goes meaning cluster tx id new (reply.Queried r) goes = absurd goes.lawful
first_goes meaning cluster tx id new (reply.Retired r) goes = absurd goes.lawful

-- the first of the replicas has the keys of the cluster
pub first_ring_of : (meaning : Meanings) (cluster : ClusterSeed) (tx : List ℕ) → first_ring (all_begun meaning cluster tx) ≡ ring_of cluster
first_ring_of meaning cluster tx = by cluster.config.replicas (omega (arith, cluster.config.enough))
  where
    by : (n : ℕ) → 0 < n → first_ring (map (λ r. begun meaning cluster (submitted meaning cluster tx r) r) (range_with_len 0 n)) ≡ ring_of cluster
    by zero low = absurd (omega (arith, low))
    by (suc n) low = refl
