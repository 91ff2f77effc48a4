-- A cluster at its start: which replicas lie, their keys, and that nothing has happened.
use Rattle.ledger_model.specs.Meanings.{Meanings}
use Rattle.std.specs.Prelude.{◌≡◌, ℕ, ◌+◌, ◌==◌, ◌<◌, ◌≤◌, Bool, not, List, [], ◌∷◌, length, map, filter, All, if◌then◌else◌}
use Rattle.std.specs.List.{list_any, range_with_len}
use Rattle.ledger_model.specs.declared.config.Config.{Config}
use Rattle.ledger_model.specs.Applications.{Machine, run}
use Rattle.ledger_model.specs.Rules.{Ring}
use Rattle.lms_tree.specs.Trees.{Secret}
use Rattle.cluster_setup.specs.Keys.{unused, ring_with}
use Rattle.locked_replica.specs.States.{StateView, new_state}
use Rattle.adversary_net.specs.declared.party.Party.{Party}
use Rattle.adversary_net.specs.declared.party.Party.TheVariants as party
use Rattle.adversary_net.specs.WorldViews.{WorldView}

-- the number of different elements
abbrev pub different : List ℕ → ℕ
different [] = 0
different (x ∷ xs) = (if list_any (λ y. y == x) xs then 0 else 1) + different xs

-- the replica is one of the liars
abbrev pub is_liar : List ℕ → ℕ → Bool
is_liar liars r = list_any (λ l. l == r) liars

-- the correct replicas among the n replicas from number a on
abbrev pub correct_from : List ℕ → ℕ → ℕ → List ℕ
correct_from liars a n = filter (λ r. not (is_liar liars r)) (range_with_len a n)

-- the correct replicas of the cluster, in ascending order
abbrev pub correct_without : Config → List ℕ → List ℕ
correct_without config liars = correct_from liars 0 config.replicas

-- these replicas may lie: at most t different ones, each of the cluster
pub record MayLie (config : Config) (liars : List ℕ) : Type 0 where
  pub few : different liars ≤ config.faults
  pub below : All (λ r. r < config.replicas) liars

-- a correct replica to which nothing has happened
abbrev pub new_replica : Meanings → Config → Ring → (ℕ → Secret) → ℕ → StateView
new_replica meaning config ring secrets r = new_state meaning config r ring (unused (secrets r))

-- the party with this number at the start
abbrev pub new_party : Meanings → Config → Ring → (ℕ → Secret) → List ℕ → ℕ → Party StateView
new_party meaning config ring secrets liars r =
    if is_liar liars r then party.Liar (unused (secrets r)) else party.Correct (new_replica meaning config ring secrets r)

-- the cluster of these secrets at its start, in which these replicas lie
abbrev pub new_cluster : Meanings → Config → (ℕ → Secret) → List ℕ → WorldView
new_cluster meaning config secrets liars = record {
  config = config;
  ring = ring_with config secrets;
  parties = map (new_party meaning config (ring_with config secrets) secrets liars) (range_with_len 0 config.replicas);
  order = [];
}

-- an application and random keys for each of n correct replicas, with each application in the opening state of its kind
pub record IsSupply (meaning : Meanings) {A R : Type 0} (machine : A → Machine) (config : Config) (n : ℕ) (apps : List A)
    (randoms : List R) : Type 0 where
  pub an_app : length apps ≡ n
  pub a_pair : length randoms ≡ n
  pub opening : All (λ a. machine a ≡ run meaning config.kind []) apps
