-- The settings that the words of a command line give: each option has its value in the matches, which is its default if
-- the words give none.
use Rattle.ledger_model.specs.declared.config.AppKinds.{AppKinds}
use Rattle.app_states.specs.ProgramWords.{ProgramWords}
use Rattle.ledger_model.specs.Meanings.{Meanings}
use Rattle.std.specs.Prelude.{◌≡◌, ℕ, ◌==◌, Bool, true, false, not, ◌&&◌, ◌||◌, ◌≤◌, ◌+◌, ◌-◌, ◌*◌, IsTrue, List, [], ◌∷◌, ◌++◌, length, codes, Option, Some, MatchOption, ◌≢◌}
use Rattle.std.specs.Prelude.{None, Ok, ◌⊎◌, ◌↔◌, find, option_and_then, option_map, if◌then◌else◌, Contains}
use Rattle.std.specs.List.{list_any}
use Rattle.std.specs.Str.{bytes_eq}
use Rattle.std.specs.String.{string_bytes}
use Rattle.std.specs.Str.Parse.{digits_value}
use Rattle.hex.specs.Hex.{decode_sized}
use Rattle.clap.specs.Words.{Row, Text, first_of, kind_of, subcommand_of, takes}
use Rattle.clap.specs.declared.error.ErrorKind.TheVariants as kind
use Rattle.clap.specs.declared.parser.matches.ValueSource.TheVariants.{CommandLine}
use Rattle.ledger_model.specs.declared.config.AppKind.{AppKind}
use Rattle.ledger_model.specs.declared.config.AppKind.TheVariants.{Own, KvStore, Counter, Purse}
use Rattle.ledger_model.specs.declared.config.AppKinds.TheVariants.{Three, OwnAlone}
use Rattle.ledger_model.specs.Replies.{check_reply}
use Rattle.ledger_model.specs.Numbers.{has_kind, kind_number, version_number}
use Rattle.lm_ots.specs.Parameters.{bits_of, levels_of}
use Rattle.log.specs.Level.{parse_filter}
use Rattle.log.specs.declared.level.LevelFilter.{LevelFilter}
use Rattle.log.specs.declared.level.LevelFilter.TheVariants.{Off}
use Rattle.command_line.specs.Grammar.{abft_app}
use Rattle.command_line.specs.Receipts.{SpellsReceipt}
use Rattle.command_line.specs.declared.given_keys.GivenKeys.{GivenKeys}
use Rattle.command_line.specs.declared.seed_words.SeedWords.{SeedWords}
use Rattle.command_line.specs.declared.seed_words.SeedWords.TheVariants.{Digits, DigitsOrRandom}
use Rattle.command_line.specs.declared.usage_fault.UsageFault.{UsageFault}
use Rattle.command_line.specs.declared.usage_fault.UsageFault.TheVariants as fault
use Rattle.cluster_setup.specs.declared.cluster_seed.ClusterSeed.{ClusterSeed}
use Rattle.cluster_setup.specs.declared.known_cluster.KnownCluster.{KnownCluster}
use Rattle.cluster_setup.specs.declared.known_cluster.KnownCluster.TheVariants.{BySeed, ByKeys}
use Rattle.cluster_setup.specs.declared.sign_settings.SignSettings.{SignSettings}
use Rattle.cluster_setup.specs.declared.deliver_settings.DeliverSettings.{DeliverSettings}
use Rattle.cluster_setup.specs.declared.simulate_settings.SimulateSettings.{SimulateSettings}
use Rattle.cluster_setup.specs.declared.cluster_settings.ClusterSettings.{ClusterSettings}
use Rattle.cluster_setup.specs.declared.cluster_settings.ServeSettings.{ServeSettings}
use Rattle.cluster_setup.specs.declared.audit_settings.AuditSettings.{AuditSettings}
use Rattle.cluster_setup.specs.declared.audit_settings.Receipt.{Receipt}
use Rattle.cluster_setup.specs.declared.draw_settings.DrawSettings.{DrawSettings}
use Rattle.cluster_setup.specs.declared.settings.Settings.{Settings}
use Rattle.cluster_setup.specs.declared.settings.Settings.TheVariants as settings
use Rattle.cluster_setup.specs.declared.sign_settings.What.{What}
use Rattle.cluster_setup.specs.declared.sign_settings.What.TheVariants.{Report, Ack}
use Rattle.plain_text.specs.Numbers.{is_decimal}
use Rattle.plain_text.specs.Transactions.{StandsFor}

-- ---- which options a subcommand has, and which numbers they take

-- the numbers that an option takes
pub record Limits : Type 0 where
  pub option : Text
  pub least : ℕ
  pub most : ℕ

-- the options of a subcommand that have a value: those that take a number within limits, those that take a transaction, what `--seed`
-- takes, and all of them by name
pub record OptionTable : Type 0 where
  pub numbers : List Limits
  pub transactions : List Text
  pub seed_words : SeedWords
  pub names : List Text

-- an option that takes the numbers from `least` to `most`
abbrev pub limits : Text → ℕ → ℕ → Limits
limits option least most = record { option = option; least = least; most = most }

-- the numbers of a cluster, which every subcommand but `abft simulate` has
abbrev pub cluster_numbers : List Limits
cluster_numbers = limits (codes "n") 4 13 ∷ limits (codes "t") 1 4 ∷ limits (codes "frames") 1 2 ∷ []

-- the options of a cluster that have a value
abbrev pub cluster_names : List Text
cluster_names = codes "n" ∷ codes "t" ∷ codes "kind" ∷ codes "w" ∷ codes "tree" ∷ codes "frames" ∷ codes "seed" ∷ codes "seed-file" ∷ []

-- the options of `abft sign`
abbrev pub sign_options : OptionTable
sign_options = record {
  numbers = cluster_numbers ++ limits (codes "height") 1 4096 ∷ limits (codes "phase") 1 1000000000 ∷ [];
  transactions = codes "value" ∷ [];
  seed_words = Digits;
  names = cluster_names ++ codes "what" ∷ codes "replica" ∷ codes "height" ∷ codes "phase" ∷ codes "value" ∷ [];
}

-- of `abft deliver`
abbrev pub deliver_options : OptionTable
deliver_options = record {
  numbers = cluster_numbers ++ limits (codes "height") 1 4 ∷ limits (codes "rounds") 0 4000000000 ∷ [];
  transactions = codes "value" ∷ [];
  seed_words = Digits;
  names = cluster_names ++ codes "replica" ∷ codes "value" ∷ codes "height" ∷ codes "rounds" ∷ [];
}

-- of `abft simulate`
abbrev pub simulate_options : OptionTable
simulate_options =
    record { numbers = []; transactions = []; seed_words = Digits; names = codes "seed" ∷ codes "seed-file" ∷ [] }

-- of `abft cluster`
abbrev pub running_options : OptionTable
running_options = record {
  numbers = cluster_numbers ++ limits (codes "rounds") 0 4000000000 ∷ limits (codes "base-ms") 1 60000 ∷ [];
  transactions = codes "tx" ∷ [];
  seed_words = DigitsOrRandom;
  names = cluster_names ++ codes "tx" ∷ codes "rounds" ∷ codes "base-ms" ∷ codes "log" ∷ codes "histories" ∷ [];
}

-- of `abft serve`
abbrev pub serve_options : OptionTable
serve_options = record {
  numbers = running_options.numbers ++ limits (codes "port") 0 65535 ∷ limits (codes "http") 0 65535
      ∷ limits (codes "sessions") 1 1000
      ∷ limits (codes "client-entries") 0 65536 ∷ [];
  transactions = running_options.transactions;
  seed_words = running_options.seed_words;
  names = running_options.names ++ codes "port" ∷ codes "http" ∷ codes "sessions" ∷ codes "client-entries" ∷ [];
}

-- of `abft audit`
abbrev pub audit_options : OptionTable
audit_options = record {
  numbers = cluster_numbers;
  transactions = [];
  seed_words = Digits;
  names = cluster_names ++ codes "cluster" ∷ codes "receipt" ∷ [];
}

-- of `abft draw`
abbrev pub draw_options : OptionTable
draw_options = record {
  numbers = cluster_numbers ++ limits (codes "height") 0 4096 ∷ limits (codes "first") 0 4000000000 ∷ limits
      (codes "last") 0 4000000000 ∷ [];
  transactions = [];
  seed_words = Digits;
  names = cluster_names ++ codes "cluster" ∷ codes "height" ∷ codes "first" ∷ codes "last" ∷ [];
}

-- of `abft keys`
abbrev pub keys_options : OptionTable
keys_options = record {
  numbers = cluster_numbers;
  transactions = [];
  seed_words = DigitsOrRandom;
  names = cluster_names ++ codes "write-seed" ∷ [];
}

-- the options of a subcommand, by its name
abbrev pub options_of : Text → OptionTable
options_of name =
    if bytes_eq name (codes "sign") then sign_options
    else if bytes_eq name (codes "deliver") then deliver_options
    else if bytes_eq name (codes "simulate") then simulate_options
    else if bytes_eq name (codes "cluster") then running_options
    else if bytes_eq name (codes "serve") then serve_options
    else if bytes_eq name (codes "audit") then audit_options
    else if bytes_eq name (codes "draw") then draw_options
    else if bytes_eq name (codes "keys") then keys_options
    else record { numbers = []; transactions = []; seed_words = Digits; names = [] }

-- the text is one of these
abbrev pub is_one_of : Text → List Text → Bool
is_one_of text texts = list_any (λ t. bytes_eq t text) texts

-- the program has the three applications
abbrev pub is_three : AppKinds → Bool
is_three Three = true
is_three OwnAlone = false

-- the option is one of the table that the program has, and takes a value; only a program of the three has `--kind`
abbrev pub HasOption : AppKinds → OptionTable → Text → Type 0
HasOption kinds table option = IsTrue (is_one_of option table.names && (not (bytes_eq option (codes "kind")) || is_three kinds))

-- the option is one of the table, and takes a transaction
abbrev pub TakesTransaction : AppKinds → OptionTable → Text → Type 0
TakesTransaction kinds table option = HasOption kinds table option × IsTrue (is_one_of option table.transactions)

-- these are the option's limits
abbrev pub is_limit : Text → ℕ → ℕ → Limits → Bool
is_limit option least most l = bytes_eq l.option option && ((l.least == least) && (l.most == most))

-- the option's value is a decimal number within the limits
pub record IsNumberWithin (rows : List Row) (name : Text) (low high n : ℕ) : Type 0 where
  pub text : Text
  pub has : first_of name rows ≡ Some text
  pub decimal : IsTrue (is_decimal text)
  pub number : digits_value 10 text ≡ n
  pub least : low ≤ n
  pub most : n ≤ high

-- the option is that of a replica's number, which is below the number of replicas
pub record IsReplicaLimit (rows : List Row) (option : Text) (least most : ℕ) : Type 0 where
  pub named : option ≡ codes "replica"
  pub zero : least ≡ 0
  pub replicas : ℕ
  pub set : IsNumberWithin rows (codes "n") 0 255 replicas
  pub last : most ≡ replicas - 1

-- the option is one of the table, and takes the numbers from `least` to `most`
abbrev pub TakesNumber : AppKinds → OptionTable → List Row → Text → ℕ → ℕ → Type 0
TakesNumber kinds table rows option least most =
    HasOption kinds table option × (IsTrue (list_any (is_limit option least most) table.numbers) ⊎ IsReplicaLimit rows option least most)

-- the option is one of the table, and takes one of these two numbers: that of the bits, or that of the tree's levels
abbrev pub TakesEither : AppKinds → OptionTable → Text → ℕ → ℕ → Type 0
TakesEither kinds table option one other =
    HasOption kinds table option
    × (((option ≡ codes "w") × (one ≡ 4) × (other ≡ 8)) ⊎ ((option ≡ codes "tree") × (one ≡ 5) × (other ≡ 10)))

-- the table has the options of the seed, and `--seed` takes these words
pub record HasSeed (kinds : AppKinds) (taken : SeedWords) (table : OptionTable) : Type 0 where
  pub seed : HasOption kinds table (codes "seed")
  pub file : HasOption kinds table (codes "seed-file")
  pub words : table.seed_words ≡ taken

-- the table has the options of a cluster, and `--seed` takes these words
pub record HasCluster (kinds : AppKinds) (taken : SeedWords) (table : OptionTable) : Type 0 where
  pub n : HasOption kinds table (codes "n")
  pub n_limits : IsTrue (list_any (is_limit (codes "n") 4 13) table.numbers)
  pub t : HasOption kinds table (codes "t")
  pub t_limits : IsTrue (list_any (is_limit (codes "t") 1 4) table.numbers)
  pub kind : kinds ≡ Three → HasOption kinds table (codes "kind")
  pub w : HasOption kinds table (codes "w")
  pub tree : HasOption kinds table (codes "tree")
  pub frames : HasOption kinds table (codes "frames")
  pub frames_limits : IsTrue (list_any (is_limit (codes "frames") 1 2) table.numbers)
  pub seed : HasSeed kinds taken table

-- the table has the options of a running cluster
pub record HasRunning (kinds : AppKinds) (table : OptionTable) : Type 0 where
  pub cluster : HasCluster kinds DigitsOrRandom table
  pub tx : TakesTransaction kinds table (codes "tx")
  pub rounds : HasOption kinds table (codes "rounds")
  pub rounds_limits : IsTrue (list_any (is_limit (codes "rounds") 0 4000000000) table.numbers)
  pub base : HasOption kinds table (codes "base-ms")
  pub base_limits : IsTrue (list_any (is_limit (codes "base-ms") 1 60000) table.numbers)
  pub log : HasOption kinds table (codes "log")

-- the words contain the option: its value is not its default
abbrev pub IsNamed : List Row → Text → Type 0
IsNamed rows name = option_and_then (λ r. r.source) (find (λ r. bytes_eq r.id name) rows) ≡ Some CommandLine

-- the word is `random`, where `--seed` takes that, and this seed is given
abbrev pub IsDrawn : SeedWords → Option (List ℕ) → Text → List ℕ → Type 0
IsDrawn Digits given word seed = ⊥
IsDrawn DigitsOrRandom given word seed = (word ≡ codes "random") × (given ≡ Some seed)

-- the value of `--seed` is the 64 hexadecimal digits of the seed, whatever is given, or `random`
pub record IsWordSeed (taken : SeedWords) (given : Option (List ℕ)) (rows : List Row) (seed : List ℕ) : Type 0 where
  pub word : Text
  pub has : first_of (codes "seed") rows ≡ Some word
  pub means : (decode_sized word 32 ≡ Ok seed) ⊎ IsDrawn taken given word seed

-- the words contain no `--seed`, the file is not `-`, and this seed is given
pub record IsFileSeed (file : Text) (given : Option (List ℕ)) (rows : List Row) (seed : List ℕ) : Type 0 where
  pub alone : IsNamed rows (codes "seed") → ⊥
  pub named : file ≢ codes "-"
  pub read : given ≡ Some seed

-- The seed of all keys: that of the file, if the words contain `--seed-file`, and else that of `--seed`. What a file has, and what is
-- drawn, no clause can say, so this seed is given.
abbrev pub IsSeed : SeedWords → Option (List ℕ) → List Row → List ℕ → Type 0
IsSeed taken given rows seed =
    MatchOption (first_of (codes "seed-file") rows) (IsWordSeed taken given rows seed) (λ file. IsFileSeed file given rows seed)

-- `--seed` is `random`, in a subcommand that takes that
abbrev pub AsksForRandom : SeedWords → List Row → Type 0
AsksForRandom Digits rows = ⊥
AsksForRandom DigitsOrRandom rows = first_of (codes "seed") rows ≡ Some (codes "random")

-- the words give this option this file
abbrev pub NamesFile : List Row → Text → Type 0
NamesFile rows option = (file : Text) × (first_of option rows ≡ Some file)

-- the option's value encodes this transaction
pub record IsWritten (rows : List Row) (name : Text) (tx : List ℕ) : Type 0 where
  pub text : Text
  pub has : first_of name rows ≡ Some text
  pub bytes : StandsFor text tx
  pub some : 1 ≤ length tx
  pub short : length tx ≤ 64

-- the option's value encodes this transaction, for which CheckTx of an application of this kind returns 0 in its opening state
pub record IsAccepted (meaning : Meanings) (rows : List Row) (name : Text) (kind : AppKind) (tx : List ℕ) : Type 0 where
  pub written : IsWritten rows name tx
  pub checked : check_reply meaning kind [] tx ≡ 0

-- the words contain a receipt, and it is this one, or they contain none
abbrev pub SetsReceipt : List Row → Option Receipt → Type 0
SetsReceipt rows None = first_of (codes "receipt") rows ≡ None
SetsReceipt rows (Some receipt) = (text : Text) × ((first_of (codes "receipt") rows ≡ Some text) × SpellsReceipt text receipt)

-- the words contain a port, and it is this one, or they contain none
abbrev pub SetsPort : List Row → Text → Option ℕ → Type 0
SetsPort rows name None = first_of name rows ≡ None
SetsPort rows name (Some port) = IsNumberWithin rows name 0 65535 port

-- The value of `--log` names a level, in capitals or not. This is that level, or `Off` if the words contain `--quiet`.
pub record SetsLog (rows : List Row) (level : LevelFilter) : Type 0 where
  pub text : Text
  pub has : first_of (codes "log") rows ≡ Some text
  pub named : LevelFilter
  pub parsed : parse_filter text ≡ Some named
  pub quiet : IsNamed rows (codes "quiet") → level ≡ Off
  pub loud : (IsNamed rows (codes "quiet") → ⊥) → level ≡ named

-- the word is the name of this application, one of the three
abbrev pub NamesKind : AppKind → Text → Type 0
NamesKind Own word = ⊥
NamesKind KvStore word = word ≡ codes "kvstore"
NamesKind Counter word = word ≡ codes "counter"
NamesKind Purse word = word ≡ codes "purse"

-- the option's value is the name of this application
pub record IsNamedKind (rows : List Row) (kind : AppKind) : Type 0 where
  pub word : Text
  pub has : first_of (codes "kind") rows ≡ Some word
  pub names : NamesKind kind word

-- the cluster's kind: the option's value is its number or its name, in a program of the three; or that of the program's own application
abbrev pub SetsKind : AppKinds → List Row → AppKind → Type 0
SetsKind Three rows kind = IsNumberWithin rows (codes "kind") 1 3 (kind_number kind) ⊎ IsNamedKind rows kind
SetsKind OwnAlone rows kind = kind ≡ Own

-- the options of a cluster, where `--seed` takes these words
pub record SetsCluster (kinds : AppKinds) (taken : SeedWords) (given : Option (List ℕ)) (rows : List Row) (cluster : ClusterSeed) : Type 0 where
  pub n : IsNumberWithin rows (codes "n") 0 255 cluster.config.replicas
  pub t : IsNumberWithin rows (codes "t") 0 255 cluster.config.faults
  pub kind : SetsKind kinds rows cluster.config.kind
  pub enough : 3 * cluster.config.faults + 1 ≤ cluster.config.replicas
  pub bounded : cluster.config.replicas ≤ 13
  pub tolerant : 1 ≤ cluster.config.faults
  pub w : IsNumberWithin rows (codes "w") 4 8 (bits_of cluster.params.width)
  pub tree : IsNumberWithin rows (codes "tree") 5 10 (levels_of cluster.params.height)
  pub frames : IsNumberWithin rows (codes "frames") 1 2 (version_number cluster.config.frames)
  pub seed : IsSeed taken given rows cluster.seed

-- the words contain none of the options that a cluster's file stands for
abbrev pub ContainsNoOther : List Row → Type 0
ContainsNoOther rows = (option : Text) → Contains cluster_names option → IsNamed rows option → ⊥

-- The cluster of histories: that of the options, or, if the words name its file and contain no option that the file stands for, the cluster
-- that is given, which is of a kind that the program has. What a file has no clause can say, so this cluster is given.
abbrev pub SetsKnown : AppKinds → GivenKeys → List Row → KnownCluster → Type 0
SetsKnown kinds given rows (BySeed cluster) = (first_of (codes "cluster") rows ≡ None) × SetsCluster kinds Digits given.seed rows cluster
SetsKnown kinds given rows (ByKeys cluster) = NamesFile rows (codes "cluster") × (ContainsNoOther rows
    × ((given.cluster ≡ Some cluster) × (has_kind kinds cluster.config.kind ≡ true)))

-- the options of `abft keys` set this cluster; the words name a file to write its seed to exactly if they ask for a random one
pub record SetsKeys (kinds : AppKinds) (given : Option (List ℕ)) (rows : List Row) (c : ClusterSeed) : Type 0 where
  pub cluster : SetsCluster kinds DigitsOrRandom given rows c
  pub written : AsksForRandom DigitsOrRandom rows ↔ NamesFile rows (codes "write-seed")

-- the word that names the statement to sign
abbrev pub word_of : What → Text
word_of Report = codes "report"
word_of Ack = codes "ack"

-- the options of `abft sign` set these settings
pub record SetsSign (kinds : AppKinds) (given : Option (List ℕ)) (rows : List Row) (s : SignSettings) : Type 0 where
  pub cluster : SetsCluster kinds Digits given rows s.cluster
  pub what : first_of (codes "what") rows ≡ Some (word_of s.what)
  pub replica : IsNumberWithin rows (codes "replica") 0 (s.cluster.config.replicas - 1) s.replica
  pub height : IsNumberWithin rows (codes "height") 1 4096 s.height
  pub phase : IsNumberWithin rows (codes "phase") 1 1000000000 s.phase
  pub value : IsWritten rows (codes "value") s.value

-- the options of `abft deliver` set these settings
pub record SetsDeliver (kinds : AppKinds) (meaning : Meanings) (given : Option (List ℕ)) (rows : List Row) (s : DeliverSettings) : Type 0 where
  pub cluster : SetsCluster kinds Digits given rows s.cluster
  pub replica : IsNumberWithin rows (codes "replica") 0 (s.cluster.config.replicas - 1) s.replica
  pub value : IsAccepted meaning rows (codes "value") s.cluster.config.kind s.value
  pub height : IsNumberWithin rows (codes "height") 1 4 s.height
  pub rounds : IsNumberWithin rows (codes "rounds") 0 4000000000 s.rounds

-- the options of `abft simulate` set these settings; histories are to be written if the words contain that option
pub record SetsSimulate (given : Option (List ℕ)) (rows : List Row) (s : SimulateSettings) : Type 0 where
  pub seed : IsSeed Digits given rows s.seed
  pub histories : IsTrue s.histories ↔ IsNamed rows (codes "histories")

-- The options of `abft cluster` set these settings. The run ends with standard input, and rounds are short again after each block, if the
-- words contain those options; blocks may be empty, unless the words contain `--no-empty-blocks`. The histories are written to the file that
-- the words name, if they name one.
pub record SetsRunning (kinds : AppKinds) (meaning : Meanings) (given : Option (List ℕ)) (rows : List Row) (s : ClusterSettings) : Type 0 where
  pub cluster : SetsCluster kinds DigitsOrRandom given rows s.cluster
  pub tx : IsAccepted meaning rows (codes "tx") s.cluster.config.kind s.tx
  pub rounds : IsNumberWithin rows (codes "rounds") 0 4000000000 s.rounds
  pub base : IsNumberWithin rows (codes "base-ms") 1 60000 s.base_ms
  pub steady : IsTrue s.is_steady ↔ IsNamed rows (codes "steady")
  pub creates_empty : IsTrue s.creates_empty_blocks ↔ (IsNamed rows (codes "no-empty-blocks") → ⊥)
  pub log : SetsLog rows s.log
  pub stops : IsTrue s.stops_at_eof ↔ IsNamed rows (codes "stop-at-eof")
  pub histories : option_map string_bytes s.histories ≡ first_of (codes "histories") rows

-- the options of `abft serve` set these settings
pub record SetsServe (kinds : AppKinds) (meaning : Meanings) (given : Option (List ℕ)) (rows : List Row) (s : ServeSettings) : Type 0 where
  pub cluster : SetsRunning kinds meaning given rows s.cluster
  pub port : IsNumberWithin rows (codes "port") 0 65535 s.port
  pub http : SetsPort rows (codes "http") s.http
  pub sessions : IsNumberWithin rows (codes "sessions") 1 1000 s.sessions
  pub entries : IsNumberWithin rows (codes "client-entries") 0 65536 s.client_entries

-- the options of `abft audit` set these settings
pub record SetsAudit (kinds : AppKinds) (given : GivenKeys) (rows : List Row) (s : AuditSettings) : Type 0 where
  pub cluster : SetsKnown kinds given rows s.cluster
  pub receipt : SetsReceipt rows s.receipt

-- the options of `abft draw` set these settings
pub record SetsDraw (kinds : AppKinds) (given : GivenKeys) (rows : List Row) (s : DrawSettings) : Type 0 where
  pub cluster : SetsKnown kinds given rows s.cluster
  pub height : IsNumberWithin rows (codes "height") 0 4096 s.height
  pub first : IsNumberWithin rows (codes "first") 0 4000000000 s.first
  pub last : IsNumberWithin rows (codes "last") 0 4000000000 s.last

-- the subcommand that the words name sets these settings with its options, and with the seed or the cluster that is given, if they ask for that
abbrev pub Sets : AppKinds → Meanings → GivenKeys → Option (Text × List Row) → Settings → Type 0
Sets kinds meaning given None s = ⊥
Sets kinds meaning given (Some found) (settings.Sign s) = (found.0 ≡ codes "sign") × SetsSign kinds given.seed found.1 s
Sets kinds meaning given (Some found) (settings.Deliver s) = (found.0 ≡ codes "deliver") × SetsDeliver kinds meaning given.seed found.1 s
Sets kinds meaning given (Some found) (settings.Simulate s) = (found.0 ≡ codes "simulate") × SetsSimulate given.seed found.1 s
Sets kinds meaning given (Some found) (settings.Cluster s) = (found.0 ≡ codes "cluster") × SetsRunning kinds meaning given.seed found.1 s
Sets kinds meaning given (Some found) (settings.Serve s) = (found.0 ≡ codes "serve") × SetsServe kinds meaning given.seed found.1 s
Sets kinds meaning given (Some found) (settings.Audit s) = (found.0 ≡ codes "audit") × SetsAudit kinds given found.1 s
Sets kinds meaning given (Some found) (settings.Draw s) = (found.0 ≡ codes "draw") × SetsDraw kinds given found.1 s
Sets kinds meaning given (Some found) (settings.Keys s) = (found.0 ≡ codes "keys") × SetsKeys kinds given.seed found.1 s

-- the words give these settings, with the seed or the cluster that is given, if they ask for that
abbrev pub IsSet : ProgramWords → Meanings → GivenKeys → List Text → Settings → Type 0
IsSet program meaning given words s = Sets program.kinds meaning given (subcommand_of (abft_app program) words) s

-- the words are no command line of the program, or give no settings
abbrev pub IsRefused : ProgramWords → Meanings → GivenKeys → List Text → Type 0
IsRefused program meaning given words = takes (abft_app program) words ≡ true → (s : Settings) → IsSet program meaning given words s → ⊥

-- the fault is that memory ran out, here or in clap
abbrev pub WantsMemory : UsageFault → Type 0
WantsMemory (fault.CommandLine error) = kind_of error ≡ kind.OutOfMemory
WantsMemory (fault.Number option least most word) = ⊥
WantsMemory (fault.Neither option one other word) = ⊥
WantsMemory (fault.Kind word) = ⊥
WantsMemory (fault.Seed taken word) = ⊥
WantsMemory (fault.SeedFile file) = ⊥
WantsMemory fault.TwoSeeds = ⊥
WantsMemory fault.UnwrittenSeed = ⊥
WantsMemory (fault.BesideFile option) = ⊥
WantsMemory (fault.ClusterFile file) = ⊥
WantsMemory (fault.TooFew replicas faults) = ⊥
WantsMemory (fault.Spelling option why) = ⊥
WantsMemory (fault.NoTransaction option word) = ⊥
WantsMemory (fault.Rejected option code word) = ⊥
WantsMemory (fault.Receipt word) = ⊥
WantsMemory (fault.NamedInput name input word) = ⊥
WantsMemory (fault.What word) = ⊥
WantsMemory (fault.Level word) = ⊥
WantsMemory (fault.Missing option) = ⊥
WantsMemory fault.NoSubcommand = ⊥
WantsMemory fault.NoMemory = Unit {0}

-- the words ask for the help or the version
abbrev pub AsksForText : UsageFault → Type 0
AsksForText (fault.CommandLine error) = (kind_of error ≡ kind.DisplayHelp) ⊎ (kind_of error ≡ kind.DisplayVersion)
AsksForText (fault.Number option least most word) = ⊥
AsksForText (fault.Neither option one other word) = ⊥
AsksForText (fault.Kind word) = ⊥
AsksForText (fault.Seed taken word) = ⊥
AsksForText (fault.SeedFile file) = ⊥
AsksForText fault.TwoSeeds = ⊥
AsksForText fault.UnwrittenSeed = ⊥
AsksForText (fault.BesideFile option) = ⊥
AsksForText (fault.ClusterFile file) = ⊥
AsksForText (fault.TooFew replicas faults) = ⊥
AsksForText (fault.Spelling option why) = ⊥
AsksForText (fault.NoTransaction option word) = ⊥
AsksForText (fault.Rejected option code word) = ⊥
AsksForText (fault.Receipt word) = ⊥
AsksForText (fault.NamedInput name input word) = ⊥
AsksForText (fault.What word) = ⊥
AsksForText (fault.Level word) = ⊥
AsksForText (fault.Missing option) = ⊥
AsksForText fault.NoSubcommand = ⊥
AsksForText fault.NoMemory = ⊥
