-- Which options a table has: those of a cluster, of a running cluster, and a replica's number.
use Rattle.ledger_model.specs.declared.config.AppKinds.{AppKinds}
use Rattle.std.proofs.Common.{ℕ, ◌-◌, List, ◌++◌, ◌∷◌, ap, codes, refl, inr}
use Rattle.clap.specs.Words.{Row, Text}
use Rattle.command_line.specs.Options.{HasCluster, HasOption, HasRunning, IsNumberWithin, Limits, OptionTable, TakesNumber, cluster_names, is_three}
use Rattle.command_line.specs.Options.{cluster_numbers, running_options}
use Rattle.command_line.specs.declared.seed_words.SeedWords.{SeedWords}
use Rattle.command_line.specs.declared.seed_words.SeedWords.TheVariants.{DigitsOrRandom}

pub has_cluster : (kinds : AppKinds) (taken : SeedWords) (numbers : List Limits) (transactions names : List Text)
    → HasCluster kinds taken (record {
      numbers = cluster_numbers ++ numbers;
      transactions = transactions;
      seed_words = taken;
      names = cluster_names ++ names;
    })
has_cluster kinds taken numbers transactions names =
    record {
      n = refl;
      n_limits = refl;
      t = refl;
      t_limits = refl;
      kind = λ three. ap is_three three;
      w = refl;
      tree = refl;
      frames = refl;
      frames_limits = refl;
      seed = record { seed = refl; file = refl; words = refl };
    }

pub has_running : (kinds : AppKinds) (numbers : List Limits) (transactions names : List Text) → HasRunning kinds (record {
  numbers = running_options.numbers ++ numbers;
  transactions = codes "tx" ∷ transactions;
  seed_words = DigitsOrRandom;
  names = running_options.names ++ names;
})
has_running kinds numbers transactions names = record {
  cluster = has_cluster kinds _ _ _ _;
  tx = (refl, refl);
  rounds = refl;
  rounds_limits = refl;
  base = refl;
  base_limits = refl;
  log = refl;
}

-- an option `replica` takes the numbers below that of the replicas
pub takes_replica : (kinds : AppKinds) (table : OptionTable) (rows : List Row) (n : ℕ) → HasOption kinds table (codes "replica") → IsNumberWithin rows (codes "n") 0 255 n
    → TakesNumber kinds table rows (codes "replica") 0 (n - 1)
takes_replica kinds table rows n has is = (has, inr (record { named = refl; zero = refl; replicas = n; set = is; last = refl }))
