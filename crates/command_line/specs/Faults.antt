-- The faults of words that give no settings: each names what is wrong with the words.
use Rattle.app_states.specs.ProgramWords.{ProgramWords}
use Rattle.ledger_model.specs.Meanings.{Meanings}
use Rattle.std.specs.Prelude.{◌≡◌, ◌≢◌, ◌⊎◌, ℕ, ◌<◌, ◌+◌, ◌*◌, ⊤, List, [], ◌∷◌, length, codes, slice_get, slice_index, true, Option, Some, None, Contains}
use Rattle.clap.specs.Words.{HasKind, IsAmong, Kinds, Row, Text, fault_of, first_of, subcommand_of}
use Rattle.clap.specs.declared.error.ErrorKind.TheVariants as kind
use Rattle.ledger_model.specs.declared.config.AppKind.{AppKind}
use Rattle.ledger_model.specs.declared.config.AppKinds.{AppKinds}
use Rattle.ledger_model.specs.declared.config.AppKinds.TheVariants.{Three}
use Rattle.ledger_model.specs.Numbers.{has_kind}
use Rattle.ledger_model.specs.Replies.{check_reply}
use Rattle.log.specs.Level.{parse_filter}
use Rattle.plain_text.specs.Transactions.{Misspells, StandsFor}
use Rattle.plain_text.specs.declared.spelling_fault.SpellingFault.{SpellingFault}
use Rattle.cluster_setup.specs.declared.public_cluster.PublicCluster.{PublicCluster}
use Rattle.cluster_setup.specs.declared.sign_settings.What.{What}
use Rattle.cluster_setup.specs.declared.audit_settings.Receipt.{Receipt}
use Rattle.command_line.specs.Grammar.{abft_app}
use Rattle.command_line.specs.Receipts.{SpellsReceipt}
use Rattle.command_line.specs.Options.{AsksForRandom, HasOption, IsNumberWithin, IsNamed, IsWordSeed, IsWritten, NamesFile, OptionTable, SetsKind, TakesEither, TakesNumber, TakesTransaction}
use Rattle.command_line.specs.Options.{cluster_names, options_of, word_of}
use Rattle.command_line.specs.declared.seed_words.SeedWords.{SeedWords}
use Rattle.command_line.specs.declared.seed_words.SeedWords.TheVariants.{DigitsOrRandom}
use Rattle.command_line.specs.declared.usage_fault.Input.{Input}
use Rattle.command_line.specs.declared.usage_fault.Input.TheVariants.{Frames, Scenario, AuditedHistories, DrawnHistories}
use Rattle.command_line.specs.declared.usage_fault.UsageFault.{UsageFault}
use Rattle.command_line.specs.declared.usage_fault.UsageFault.TheVariants as fault

-- ---- words that are no command line

-- The kinds of error that clap may return for these words: those of the first thing that it refuses or shows. There is
-- none if the words are a command line of the program.
unfoldable pub kinds_of : ProgramWords → List Text → Kinds
kinds_of program words = fault_of (abft_app program) words

-- The words ask for the help or the version. For `abft help WORD` there are two kinds, because WORD may be no subcommand.
abbrev pub AskForHelp : ProgramWords → List Text → Type 0
AskForHelp program words = IsAmong kind.DisplayHelp (kinds_of program words) ⊎ IsAmong kind.DisplayVersion (kinds_of program words)

-- the words ask for the help or the version, and for nothing else
abbrev pub AskForHelpAlone : ProgramWords → List Text → Type 0
AskForHelpAlone program words = (kinds_of program words ≡ kind.DisplayHelp ∷ []) ⊎ (kinds_of program words ≡ kind.DisplayVersion ∷ [])

-- the word follows this subcommand, and is no option
pub record IsOperand (words : List Text) (subcommand word : Text) : Type 0 where
  pub second : slice_get words 1 ≡ Some subcommand
  pub third : slice_get words 2 ≡ Some word
  pub plain : slice_index word 0 ≢ 0x2d

-- the subcommand that reads this from standard input
abbrev pub reader_of : Input → Text
reader_of Frames = codes "deliver"
reader_of Scenario = codes "simulate"
reader_of AuditedHistories = codes "audit"
reader_of DrawnHistories = codes "draw"

-- the fault names the program, and the word after a subcommand that reads its input from standard input
abbrev pub NamesInput : Text → List Text → UsageFault → Type 0
NamesInput program words (fault.NamedInput name input word) = (name.now ≡ program) × IsOperand words (reader_of input) word.now
NamesInput program words other = ⊥

-- ---- options with a wrong value

-- the word is the option's value, but no number within the limits
abbrev pub IsNoNumber : List Row → Text → ℕ → ℕ → Text → Type 0
IsNoNumber rows option least most word = (first_of option rows ≡ Some word) × ((n : ℕ) → IsNumberWithin rows option least most n → ⊥)

-- the word is the option's value, but neither of its two numbers
abbrev pub IsNeither : List Row → Text → ℕ → ℕ → Text → Type 0
IsNeither rows option one other word =
    (first_of option rows ≡ Some word) × ((IsNumberWithin rows option one other one → ⊥) × (IsNumberWithin rows option one other other → ⊥))

-- the word is the value of `--kind`, but neither the number of one of the three applications nor its name
abbrev pub IsNoKind : List Row → Text → Type 0
IsNoKind rows word = (first_of (codes "kind") rows ≡ Some word) × ((kind : AppKind) → SetsKind Three rows kind → ⊥)

-- the word is the value of `--seed`, but not 64 hexadecimal digits, nor `random` where a seed is drawn for that
abbrev pub IsNoSeed : SeedWords → Option (List ℕ) → List Row → Text → Type 0
IsNoSeed taken given rows word =
    (first_of (codes "seed-file") rows ≡ None) × ((first_of (codes "seed") rows ≡ Some word) × ((seed : List ℕ) → IsWordSeed taken given rows seed → ⊥))

-- the words name this file for the seed, but it is `-`, or no seed was read from it
abbrev pub IsNoSeedFile : Option (List ℕ) → List Row → Text → Type 0
IsNoSeedFile given rows file = (first_of (codes "seed-file") rows ≡ Some file) × ((file ≡ codes "-") ⊎ (given ≡ None))

-- the words contain `--seed` and `--seed-file`
abbrev pub AreTwoSeeds : List Row → Type 0
AreTwoSeeds rows = IsNamed rows (codes "seed") × ((file : Text) × (first_of (codes "seed-file") rows ≡ Some file))

-- the words ask for a random seed without a file to write it to, or name such a file without asking for a random seed
abbrev pub IsUnwrittenSeed : List Row → Type 0
IsUnwrittenSeed rows = (AsksForRandom DigitsOrRandom rows × (first_of (codes "write-seed") rows ≡ None))
    ⊎ ((AsksForRandom DigitsOrRandom rows → ⊥) × NamesFile rows (codes "write-seed"))

-- the words contain this option, although they name a file that stands for it
pub record IsBesideFile (rows : List Row) (option : Text) : Type 0 where
  pub file : NamesFile rows (codes "cluster")
  pub stands : Contains cluster_names option
  pub named : IsNamed rows option

-- the options give these numbers of replicas and faults, and there are too few replicas
pub record AreTooFew (rows : List Row) (replicas faults : ℕ) : Type 0 where
  pub n : IsNumberWithin rows (codes "n") 4 13 replicas
  pub t : IsNumberWithin rows (codes "t") 1 4 faults
  pub few : replicas < 3 * faults + 1

-- the option's value encodes no bytes, with this fault
pub record IsMisspelled (rows : List Row) (option : Text) (why : SpellingFault) : Type 0 where
  pub word : Text
  pub has : first_of option rows ≡ Some word
  pub misspells : Misspells word why

-- the word is the option's value, and stands for bytes that are no transaction: none, or more than 64
pub record IsNoTransaction (rows : List Row) (option word : Text) : Type 0 where
  pub has : first_of option rows ≡ Some word
  pub bytes : List ℕ
  pub stands : StandsFor word bytes
  pub wrong_length : (length bytes ≡ 0) ⊎ (64 < length bytes)

-- the word is the option's value, a transaction for which CheckTx of an application of the cluster's kind returns this code in its
-- opening state
pub record IsRejected (kinds : AppKinds) (meaning : Meanings) (rows : List Row) (option : Text) (code : ℕ) (word : Text) : Type 0 where
  pub has : first_of option rows ≡ Some word
  pub tx : List ℕ
  pub written : IsWritten rows option tx
  pub kind : AppKind
  pub chosen : SetsKind kinds rows kind
  pub answer : check_reply meaning kind [] tx ≡ code
  pub refused : code ≢ 0

-- the word is the value of `--receipt`, but spells no receipt
abbrev pub IsNoReceipt : List Row → Text → Type 0
IsNoReceipt rows word = (first_of (codes "receipt") rows ≡ Some word) × ((receipt : Receipt) → SpellsReceipt word receipt → ⊥)

-- the word is neither `report` nor `ack`
abbrev pub IsNoStatement : List Row → Text → Type 0
IsNoStatement rows word = (first_of (codes "what") rows ≡ Some word) × ((what : What) → word ≡ word_of what → ⊥)

-- the word is the value of `--log`, but names no level
abbrev pub IsNoLevel : List Row → Text → Type 0
IsNoLevel rows word = (first_of (codes "log") rows ≡ Some word) × (parse_filter word ≡ None)

-- the fault names an option of the table and of these rows, the numbers that it takes, and what is wrong with it
abbrev pub IsRightOf : AppKinds → Meanings → Option (List ℕ) → OptionTable → List Row → UsageFault → Type 0
IsRightOf kinds meaning given table rows (fault.CommandLine error) = ⊥
IsRightOf kinds meaning given table rows (fault.Number option least most word) =
    TakesNumber kinds table rows option.now least most × IsNoNumber rows option.now least most word.now
IsRightOf kinds meaning given table rows (fault.Neither option one other word) =
    TakesEither kinds table option.now one other × IsNeither rows option.now one other word.now
IsRightOf kinds meaning given table rows (fault.Kind word) = HasOption kinds table (codes "kind") × IsNoKind rows word.now
IsRightOf kinds meaning given table rows (fault.Seed taken word) = HasOption kinds table (codes "seed") × ((table.seed_words ≡ taken)
    × IsNoSeed taken given rows word.now)
IsRightOf kinds meaning given table rows (fault.SeedFile file) = HasOption kinds table (codes "seed-file") × IsNoSeedFile given rows file.now
IsRightOf kinds meaning given table rows fault.TwoSeeds = HasOption kinds table (codes "seed") × (HasOption kinds table (codes "seed-file") × AreTwoSeeds rows)
IsRightOf kinds meaning given table rows fault.UnwrittenSeed = HasOption kinds table (codes "seed") × (HasOption kinds table (codes "write-seed")
    × IsUnwrittenSeed rows)
IsRightOf kinds meaning given table rows (fault.BesideFile option) = HasOption kinds table (codes "cluster") × IsBesideFile rows option.now
IsRightOf kinds meaning given table rows (fault.ClusterFile file) = HasOption kinds table (codes "cluster")
    × (first_of (codes "cluster") rows ≡ Some file.now)
IsRightOf kinds meaning given table rows (fault.TooFew replicas faults) = AreTooFew rows replicas faults
IsRightOf kinds meaning given table rows (fault.Spelling option why) = TakesTransaction kinds table option.now × IsMisspelled rows option.now why
IsRightOf kinds meaning given table rows (fault.NoTransaction option word) = TakesTransaction kinds table option.now
    × IsNoTransaction rows option.now word.now
IsRightOf kinds meaning given table rows (fault.Rejected option code word) = TakesTransaction kinds table option.now
    × IsRejected kinds meaning rows option.now code word.now
IsRightOf kinds meaning given table rows (fault.Receipt word) = HasOption kinds table (codes "receipt") × IsNoReceipt rows word.now
IsRightOf kinds meaning given table rows (fault.NamedInput name input word) = ⊥
IsRightOf kinds meaning given table rows (fault.What word) = HasOption kinds table (codes "what") × IsNoStatement rows word.now
IsRightOf kinds meaning given table rows (fault.Level word) = HasOption kinds table (codes "log") × IsNoLevel rows word.now
IsRightOf kinds meaning given table rows (fault.Missing option) = HasOption kinds table option.now × (first_of option.now rows ≡ None)
IsRightOf kinds meaning given table rows fault.NoSubcommand = ⊥
IsRightOf kinds meaning given table rows fault.NoMemory = ⊤

-- If the fault is that the words name no public file of a cluster, none was given, or one of an application that the program doesn't have. Of
-- other faults this says nothing.
abbrev pub IsUnfit : AppKinds → Option PublicCluster → UsageFault → Type 0
IsUnfit kinds given (fault.ClusterFile file) = (c : PublicCluster) → given ≡ Some c → has_kind kinds c.config.kind ≡ true → ⊥
IsUnfit kinds given other = ⊤

-- no subcommand of the program was found
abbrev pub IsNoSubcommand : Option (Text × List Row) → Type 0
IsNoSubcommand None = ⊤
IsNoSubcommand (Some found) =
    (found.0 ≢ codes "sign") × ((found.0 ≢ codes "deliver")
    × ((found.0 ≢ codes "simulate") × ((found.0 ≢ codes "cluster")
    × ((found.0 ≢ codes "serve") × ((found.0 ≢ codes "audit") × ((found.0 ≢ codes "draw")
    × (found.0 ≢ codes "keys")))))))

-- the table of the subcommand that was found
abbrev pub table_in : Option (Text × List Row) → OptionTable
table_in None = options_of []
table_in (Some found) = options_of found.0

-- the options of the subcommand that was found
abbrev pub rows_in : Option (Text × List Row) → List Row
rows_in None = []
rows_in (Some found) = found.1

-- the fault names an option of the subcommand that was found, or says that none was found
abbrev pub IsRightIn : AppKinds → Meanings → Option (List ℕ) → Option (Text × List Row) → UsageFault → Type 0
IsRightIn kinds meaning given found fault.NoSubcommand = IsNoSubcommand found
IsRightIn kinds meaning given found e = IsRightOf kinds meaning given (table_in found) (rows_in found) e

-- the words are a command line of the program, and the fault is about an option of its subcommand
abbrev pub IsRightOption : ProgramWords → Meanings → Option (List ℕ) → List Text → UsageFault → Type 0
IsRightOption program meaning given words e = (kinds_of program words ≡ []) × IsRightIn program.kinds meaning given (subcommand_of (abft_app program) words) e

-- the fault is true of the words: clap returns an error of this kind for them, or they are a command line and an option
-- has this fault
abbrev pub IsRightFault : ProgramWords → Meanings → Option (List ℕ) → List Text → UsageFault → Type 0
IsRightFault program meaning given words (fault.CommandLine error) = HasKind (kinds_of program words) error
IsRightFault program meaning given words (fault.NamedInput name input word) = IsAmong kind.UnknownArgument (kinds_of program words)
    × NamesInput program.name words (fault.NamedInput name input word)
IsRightFault program meaning given words (fault.Number option least most word) = IsRightOption program meaning given words (fault.Number option least most word)
IsRightFault program meaning given words (fault.Neither option one other word) = IsRightOption program meaning given words (fault.Neither option one other word)
IsRightFault program meaning given words (fault.Kind word) = IsRightOption program meaning given words (fault.Kind word)
IsRightFault program meaning given words (fault.Seed taken word) = IsRightOption program meaning given words (fault.Seed taken word)
IsRightFault program meaning given words (fault.SeedFile file) = IsRightOption program meaning given words (fault.SeedFile file)
IsRightFault program meaning given words fault.TwoSeeds = IsRightOption program meaning given words fault.TwoSeeds
IsRightFault program meaning given words fault.UnwrittenSeed = IsRightOption program meaning given words fault.UnwrittenSeed
IsRightFault program meaning given words (fault.BesideFile option) = IsRightOption program meaning given words (fault.BesideFile option)
IsRightFault program meaning given words (fault.ClusterFile file) = IsRightOption program meaning given words (fault.ClusterFile file)
IsRightFault program meaning given words (fault.TooFew replicas faults) = IsRightOption program meaning given words (fault.TooFew replicas faults)
IsRightFault program meaning given words (fault.Spelling option why) = IsRightOption program meaning given words (fault.Spelling option why)
IsRightFault program meaning given words (fault.NoTransaction option word) = IsRightOption program meaning given words (fault.NoTransaction option word)
IsRightFault program meaning given words (fault.Rejected option code word) = IsRightOption program meaning given words (fault.Rejected option code word)
IsRightFault program meaning given words (fault.Receipt word) = IsRightOption program meaning given words (fault.Receipt word)
IsRightFault program meaning given words (fault.What word) = IsRightOption program meaning given words (fault.What word)
IsRightFault program meaning given words (fault.Level word) = IsRightOption program meaning given words (fault.Level word)
IsRightFault program meaning given words (fault.Missing option) = IsRightOption program meaning given words (fault.Missing option)
IsRightFault program meaning given words fault.NoSubcommand = IsRightOption program meaning given words fault.NoSubcommand
IsRightFault program meaning given words fault.NoMemory = ⊤
