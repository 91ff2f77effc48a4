-- Where the keys of a cluster come from, if the words don't have their seed.
use Rattle.app_states.specs.ProgramWords.{ProgramWords}
use Rattle.ledger_model.specs.Meanings.{Meanings}
use Rattle.std.specs.Prelude.{◌≡◌, ℕ, List, [], codes, Option, Some, None}
use Rattle.clap.specs.Words.{Row, Text, first_of, subcommand_of}
use Rattle.cluster_setup.specs.declared.settings.Settings.{Settings}
use Rattle.command_line.specs.Grammar.{abft_app}
use Rattle.command_line.specs.Options.{AsksForRandom, IsSet}
use Rattle.command_line.specs.Faults.{kinds_of, rows_in, table_in}
use Rattle.command_line.specs.declared.given_keys.GivenKeys.{GivenKeys}
use Rattle.command_line.specs.declared.key_sources.KeySource.{KeySource}
use Rattle.command_line.specs.declared.key_sources.KeySource.TheVariants as source
use Rattle.command_line.specs.declared.seed_words.SeedWords.{SeedWords}

-- this seed is given, and no cluster
abbrev pub seed_alone : Option (List ℕ) → GivenKeys
seed_alone seed = record { seed = seed; cluster = None }

-- the options name no cluster's file, and no file that has the seed
abbrev pub NamesNoKeys : List Row → Type 0
NamesNoKeys rows = (first_of (codes "cluster") rows ≡ None) × (first_of (codes "seed-file") rows ≡ None)

-- the options of a subcommand name this source
abbrev pub IsSource : SeedWords → List Row → KeySource → Type 0
IsSource taken rows (source.ClusterFile path) = first_of (codes "cluster") rows ≡ Some path.now
IsSource taken rows (source.SeedFile path) = (first_of (codes "cluster") rows ≡ None) × (first_of (codes "seed-file") rows ≡ Some path.now)
IsSource taken rows source.Random = NamesNoKeys rows × (AsksForRandom taken rows × (first_of (codes "write-seed") rows ≡ None))
IsSource taken rows (source.NewFile path) = NamesNoKeys rows × (AsksForRandom taken rows × (first_of (codes "write-seed") rows ≡ Some path.now))
IsSource taken rows source.Words = NamesNoKeys rows × (AsksForRandom taken rows → ⊥)

-- the same, of the subcommand that was found
abbrev pub IsSourceIn : Option (Text × List Row) → KeySource → Type 0
IsSourceIn found from = IsSource (table_in found).seed_words (rows_in found) from

-- the words have no fault, and set something, if they are given a seed
abbrev pub SetsWithSeed : ProgramWords → Meanings → List Text → Type 0
SetsWithSeed program meaning words =
    (kinds_of program words ≡ []) × ((seed : List ℕ) × ((s : Settings) × IsSet program meaning (seed_alone (Some seed)) words s))

-- what is given changes nothing: what the words set with it they set without
abbrev pub KeepsSettings : ProgramWords → Meanings → List Text → Type 0
KeepsSettings program meaning words = kinds_of program words ≡ [] → (given : GivenKeys) (s : Settings)
    → IsSet program meaning given words s
    → IsSet program meaning (seed_alone None) words s

-- The keys come from here: the words are a command line that names a cluster's file; or they name a file with a seed, or ask for a random
-- one, and set something with a seed; or nothing is to be given.
abbrev pub IsSourceOf : ProgramWords → Meanings → List Text → KeySource → Type 0
IsSourceOf program meaning words source.Words = KeepsSettings program meaning words
IsSourceOf program meaning words (source.ClusterFile path) =
    (kinds_of program words ≡ []) × IsSourceIn (subcommand_of (abft_app program) words) (source.ClusterFile path)
IsSourceOf program meaning words from = SetsWithSeed program meaning words × IsSourceIn (subcommand_of (abft_app program) words) from
