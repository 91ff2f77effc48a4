-- The content of a scenario, as plain values.
use Rattle.std.specs.Prelude.{ℕ, List, Option}
use Rattle.ledger_model.specs.declared.config.AppKind.{AppKind}
use Rattle.ledger_model.specs.declared.version.Version.{Version}
use Rattle.lm_ots.specs.declared.params.Width.TheVariants.{W4}
use Rattle.lm_ots.specs.declared.params.TreeHeight.TheVariants.{H5}
use Rattle.lm_ots.specs.declared.params.Params.{Params}
use Rattle.scenario_texts.specs.declared.command.Command.{Command}
use Rattle.scenario_texts.specs.declared.scenario.Scenario.{Scenario}

-- the parameter set if no line sets one: W4 and H5
abbrev pub small_keys : Params
small_keys = record { width = W4; height = H5 }

-- a cluster, the parameter set that a line sets, the version of the frames, the liars and the commands
pub record Plan : Type 0 where
  pub replicas : ℕ
  pub faults : ℕ
  pub kind : AppKind
  pub keys : Option Params
  pub frames : Version
  pub liars : List ℕ
  pub commands : List Command

-- the content of a scenario
abbrev pub plan_of : Scenario → Plan
plan_of s = record {
  replicas = s.setup.config.replicas;
  faults = s.setup.config.faults;
  kind = s.setup.config.kind;
  keys = s.setup.keys;
  frames = s.setup.config.frames;
  liars = s.setup.liars.items;
  commands = s.commands.items;
}
