-- What `abft simulate` writes for a scenario.
use Rattle.ledger_model.specs.declared.config.AppKinds.{AppKinds}
use Rattle.ledger_model.specs.Meanings.{Meanings}
use Rattle.std.specs.Prelude.{◌≡◌, ◌⊎◌, ℕ, ◌≤◌, Bool, not, List, [], ◌∷◌, ◌++◌, length, codes, decimal, Option, Result, MatchResult}
use Rattle.std.specs.Prelude.{unwrap_or, if◌then◌else◌}
use Rattle.std.specs.List.{flat_map}
use Rattle.std.specs.Io.KnownBytes.{Appends, Consumes, IsAtEnd}
use Rattle.ledger_model.specs.declared.config.Config.{Config}
use Rattle.cluster_setup.specs.declared.cluster_seed.ClusterSeed.{ClusterSeed}
use Rattle.cluster_setup.specs.Keys.{secret_of}
use Rattle.adversary_net.specs.WorldViews.{WorldView, AllAccountForLeaves, AllReplay, HasRun, world_of}
use Rattle.adversary_net.specs.Headline.{IsUnforgedRun, IsOneLedger}
use Rattle.adversary_net.specs.Openings.{new_cluster}
use Rattle.history_bytes.specs.Histories.{history_bytes}
use Rattle.scenario_texts.specs.declared.command.Command.{Command}
use Rattle.scenario_texts.specs.Lawful.{IsPlan}
use Rattle.scenario_texts.specs.Plans.{Plan, plan_of, small_keys}
use Rattle.scenario_texts.specs.Lines.{SpellsPlan, IsBadAt, IsTooLarge}
use Rattle.simulation.specs.Playing.{SimulationView, PlaysAll}
use Rattle.cluster_setup.specs.declared.simulate_settings.SimulateSettings.{SimulateSettings}
use Rattle.byte_streams.specs.Writing.{AppendsSome}
use Rattle.byte_streams.specs.Responding.{Responds, RespondsSome}
use Rattle.program.specs.declared.scenario_input.ScenarioInput.{ScenarioInput}
use Rattle.program.specs.declared.scenario_input.ScenarioInput.TheVariants as input
use Rattle.program.specs.declared.text_end.TextEnd.{TextEnd}
use Rattle.program.specs.declared.text_end.TextEnd.TheVariants.{Whole, BadLine}

-- the configuration is the one of the plan
pub record IsConfigOf (p : Plan) (config : Config) : Type 0 where
  pub replicas : config.replicas ≡ p.replicas
  pub faults : config.faults ≡ p.faults
  pub kind : config.kind ≡ p.kind
  pub frames : config.frames ≡ p.frames

-- the cluster of the plan with this configuration, whose keys come from this seed
abbrev pub cluster_of : List ℕ → Config → Plan → ClusterSeed
cluster_of seed config p = record { config = config; params = unwrap_or p.keys small_keys; seed = seed }

-- the cluster at its start, with no lie
abbrev pub simulation_at_start : Meanings → List ℕ → Config → Plan → SimulationView
simulation_at_start meaning seed config p = record {
  cluster = new_cluster meaning config
      (secret_of (cluster_of seed config p)) p.liars;
  lies = [];
}

-- the histories of the correct replicas as bytes, in ascending order of their numbers
abbrev pub histories_of : WorldView → List ℕ
histories_of c = flat_map history_bytes (world_of c).histories

-- the lines, if they are wanted
abbrev pub if_wanted : Bool → List ℕ → List ℕ
if_wanted wanted lines = if wanted then lines else []

-- The commands of the plan were played in a run from the start, which is a run of one sequential ledger if nothing was forged. The
-- history of each correct replica is a replay, and it is mute only if too few leaves were left. The text is the lines of the
-- commands, or the histories at the end.
pub record Played (meaning : Meanings) (s : SimulateSettings) (p : Plan) (text : List ℕ) : Type 0 where
  pub config : Config
  pub sized : IsConfigOf p config
  pub lines : List ℕ
  pub final : SimulationView
  pub plays : PlaysAll meaning (simulation_at_start meaning s.seed config p) p.commands lines final
  pub since : HasRun meaning final.cluster
  pub one_ledger : IsUnforgedRun final.cluster → IsOneLedger meaning final.cluster
  pub replay : AllReplay meaning final.cluster
  pub account : AllAccountForLeaves final.cluster
  pub written : text ≡ if s.histories then histories_of final.cluster else lines

-- the first commands of a list were played, with these lines
pub record PlaysSome (meaning : Meanings) (old : SimulationView) (commands : List Command) (lines : List ℕ) : Type 0 where
  pub taken : List Command
  pub later : List Command
  pub split : taken ++ later ≡ commands
  pub new : SimulationView
  pub plays : PlaysAll meaning old taken lines new

-- the first commands of the plan were played, and the text is their lines, if lines are wanted
abbrev pub PlayedSome : Meanings → SimulateSettings → Plan → List ℕ → Type 0
PlayedSome meaning s p text = (config : Config)
    × (IsConfigOf p config × ((lines : List ℕ)
    × (PlaysSome meaning (simulation_at_start meaning s.seed config p) p.commands lines × (text ≡ if_wanted (not s.histories) lines))))

-- the line with the number of a bad line
abbrev pub bad_line : ℕ → List ℕ
bad_line n = codes "line " ++ decimal n ++ codes " bad" ++ 10 ∷ []

-- what is printed for an input: the text of the plan that it encodes, or its first bad line
abbrev pub Simulates : AppKinds → Meanings → SimulateSettings → List ℕ → TextEnd → List ℕ → Type 0
Simulates kinds meaning s input Whole text = (p : Plan) × (SpellsPlan kinds input p × Played meaning s p text)
Simulates kinds meaning s input (BadLine n) text = IsBadAt kinds input n × (text ≡ bad_line n)

-- a part of what is printed for an input: nothing, or the lines of the first commands
abbrev pub SimulatesSome : AppKinds → Meanings → SimulateSettings → List ℕ → List ℕ → Type 0
SimulatesSome kinds meaning s input text = (text ≡ []) ⊎ ((p : Plan) × (SpellsPlan kinds input p × PlayedSome meaning s p text))

-- line n is the first bad one, however the text continues
abbrev pub IsBadAnyway : AppKinds → List ℕ → ℕ → Type 0
IsBadAnyway kinds input n = (more : List ℕ) → IsBadAt kinds (input ++ more) n

-- at most one piece of 8,192 bytes was read after the text had become too large for a scenario
pub record IsReadInTime (text : List ℕ) : Type 0 where
  pub before : List ℕ
  pub piece : List ℕ
  pub split : text ≡ before ++ piece
  pub fits : IsTooLarge before → ⊥
  pub short : length piece ≤ 8192

-- for a scenario the whole input was read; for a bad line, the rest may be unread if the line is bad however the text continues
abbrev pub IsReadFor : AppKinds → TextEnd → List ℕ → Option (List ℕ) → Type 0
IsReadFor kinds Whole input left = IsAtEnd left
IsReadFor kinds (BadLine n) input left = IsAtEnd left ⊎ IsBadAnyway kinds input n

-- a text was read as far as its result needs, and what is printed for it was written
abbrev pub PlaysText : AppKinds → Meanings → SimulateSettings → TextEnd → Option (List ℕ) → Option (List ℕ) → Option (List ℕ) → Option (List ℕ)
    → Type 0
PlaysText kinds meaning s end unread left before after =
    Responds (λ input text. IsReadFor kinds end input left × (IsReadInTime input × Simulates kinds meaning s input end text)) unread left before after

-- part of the input was read, and a prefix of what is printed for it was written
abbrev pub PlaysTextSome : AppKinds → Meanings → SimulateSettings → Option (List ℕ) → Option (List ℕ) → Option (List ℕ) → Option (List ℕ) → Type 0
PlaysTextSome kinds meaning s unread left before after =
    RespondsSome (λ input text. IsReadInTime input × (SimulatesSome kinds meaning s input text
    ⊎ ((end : TextEnd) × Simulates kinds meaning s input end text))) unread
    left before after

-- ---- the results of calls

-- what was read of the stream is a scenario, or its first bad line has this number
abbrev pub IsRead : AppKinds → ScenarioInput → Option (List ℕ) → Option (List ℕ) → Type 0
IsRead kinds (input.Scenario scenario) unread left =
    (text : List ℕ) × (Consumes unread left text
    × (IsReadInTime text × (IsAtEnd left × (SpellsPlan kinds text (plan_of scenario) × IsPlan kinds (plan_of scenario)))))
IsRead kinds (input.BadLine n) unread left =
    (text : List ℕ) × (Consumes unread left text × (IsReadInTime text × ((IsAtEnd left ⊎ IsBadAnyway kinds text n) × IsBadAt kinds text n)))

-- the commands were played, and their lines were written if they are wanted
abbrev pub PlaysWritten : Meanings → Bool → SimulationView → List Command → SimulationView → Option (List ℕ) → Option (List ℕ) → Type 0
PlaysWritten meaning wanted old commands new before after =
    (lines : List ℕ) × (PlaysAll meaning old commands lines new × Appends before after (if_wanted wanted lines))

-- the first commands were played, and a prefix of their lines was written
abbrev pub PlaysWrittenSome : Meanings → Bool → SimulationView → List Command → Option (List ℕ) → Option (List ℕ) → Type 0
PlaysWrittenSome meaning wanted old commands before after =
    (lines : List ℕ) × (PlaysSome meaning old commands lines × AppendsSome before after (if_wanted wanted lines))

-- The plan was played and what is printed for it was written; or, after a fault, it was played in whole or in part, and
-- a prefix was written.
abbrev pub PlansWritten : Meanings → {T E : Type 0} → Result T E → SimulateSettings → Plan → Option (List ℕ) → Option (List ℕ) → Type 0
PlansWritten meaning result s p before after = MatchResult result
    (λ _. (text : List ℕ) × (Played meaning s p text × Appends before after text))
    (λ _. (text : List ℕ) × ((PlayedSome meaning s p text ⊎ Played meaning s p text) × AppendsSome before after text))
