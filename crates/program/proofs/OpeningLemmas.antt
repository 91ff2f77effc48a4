-- The cluster of a scenario: its liars may lie.
use Rattle.ledger_model.specs.declared.config.AppKinds.{AppKinds}
use Rattle.std.proofs.Common.{ℕ, ◌+◌, ◌<◌, ◌≤◌, true, false, List, [], ◌∷◌, length, nat_eq, suc, cond, arith}
use Rattle.std.specs.Prelude.{Any}
use Rattle.std.specs.List.{list_any}
use Rattle.std.proofs.lemmas.List.Elements.{All-from_recursion}
use Rattle.ledger_model.specs.declared.config.Config.{Config}
use Rattle.adversary_net.specs.Openings.{MayLie, different}
use Rattle.scenario_texts.specs.declared.scenario.Scenario.{Scenario}
use Rattle.scenario_texts.specs.Lawful.{IsPlan}
use Rattle.scenario_texts.specs.Plans.{plan_of}

-- no more are different than there are
different_few : (xs : List ℕ) → different xs ≤ length xs
different_few [] = omega arith
different_few (x ∷ xs) =
    let rest = different_few xs in
    elim (list_any (λ y. nat_eq y x) xs) as (λ b. cond b 0 1 + different xs ≤ suc (length xs)) [
      | true ↦ omega (arith, rest)
      | false ↦
          omega (arith, rest)
    ]

-- the liars of a scenario may lie
pub may_lie : (kinds : AppKinds) (s : Scenario) → IsPlan kinds (plan_of s) → MayLie s.setup.config s.setup.liars.items
may_lie kinds s lawful = record {
  few = omega (arith, lawful.setup.few, different_few s.setup.liars.items);
  below = All-from_recursion (λ r. r < s.setup.config.replicas) s.setup.liars.items lawful.setup.replicas;
}

-- they aren't too many
pub not_too_many : (config : Config) (liars : List ℕ) → MayLie config liars → config.faults < different liars → ⊥
not_too_many config liars may many = omega (arith, may.few, many)

-- and none is a stranger
pub no_stranger : (config : Config) (liars : List ℕ) → MayLie config liars → Any (λ r. config.replicas ≤ r) liars → ⊥
no_stranger config liars may (k, r, within, at, far) =
    let near = may.below k r within in
    omega (arith, near, at, far)
