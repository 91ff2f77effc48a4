-- A new core matches the empty history.
use Rattle.ledger_model.specs.Meanings.{Meanings}
use Rattle.std.proofs.Common.{ℕ, [], refl, arith}
use Rattle.ledger_model.specs.declared.config.Config.{Config}
use Rattle.ledger_model.specs.Rules.{Ring}
use Rattle.ledger_model.specs.Logs.{log_of, log_after}
use Rattle.ledger_model.specs.Commits.{commits_of, floor_of, pool_of, pool_after}
use Rattle.replica_core.specs.Replays.{new_replay, MatchesHistory}

-- before the first event
pub new_matches : (meaning : Meanings) (config : Config) (id : ℕ) (ring : Ring)
    → MatchesHistory meaning (new_replay meaning config id ring) []
unfolding pool_of pool_after log_of log_after commits_of floor_of
new_matches meaning config id ring = record {
  clock = refl;
  clocks = λ h. refl;
  opened = λ h row at. cc;
  unopened = λ h from none. refl;
  retired = λ h below. refl;
  floor = refl;
  low = omega arith;
  pool = refl;
  commits = refl;
  machine = refl;
  blocks = λ h low high. absurd (omega (arith, low, high));
  mute = refl;
}
