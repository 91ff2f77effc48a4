-- How a plan is written: its lines, word by word.
use Rattle.std.specs.Prelude.{ℕ, List, [], ◌∷◌, ◌++◌, map, codes, Option, Some, None}
use Rattle.std.specs.List.{join_with_byte}
use Rattle.hex.specs.Hex.{encode_lower}
use Rattle.ledger_model.specs.declared.config.AppKind.{AppKind}
use Rattle.ledger_model.specs.Numbers.{kind_number}
use Rattle.ledger_model.specs.declared.version.Version.{Version}
use Rattle.ledger_model.specs.declared.version.Version.TheVariants as version
use Rattle.lm_ots.specs.Parameters.{bits_of, levels_of}
use Rattle.lm_ots.specs.declared.params.Params.{Params}
use Rattle.plain_text.specs.Numbers.{number_text}
use Rattle.plain_text.specs.Transactions.{bytes_text, batch_text}
use Rattle.scenario_texts.specs.Plans.{Plan}
use Rattle.scenario_texts.specs.declared.command.Towards.{Towards}
use Rattle.scenario_texts.specs.declared.command.Towards.TheVariants.{One, All}
use Rattle.scenario_texts.specs.declared.command.Lie.{Lie}
use Rattle.scenario_texts.specs.declared.command.Command.{Command}
use Rattle.scenario_texts.specs.declared.command.Command.TheVariants as command

-- the words, separated by single spaces
abbrev pub words_text : List (List ℕ) → List ℕ
words_text words = join_with_byte 32 words

-- the word for these bytes in their printed form; none for no bytes
abbrev pub bytes_words : List ℕ → List (List ℕ)
bytes_words [] = []
bytes_words (b ∷ bytes) = bytes_text (b ∷ bytes) ∷ []

-- the word for these bytes in lower-case hexadecimal digits; none for no bytes
abbrev pub hex_words : List ℕ → List (List ℕ)
hex_words [] = []
hex_words (b ∷ bytes) = encode_lower (b ∷ bytes) ∷ []

-- where a lie goes
abbrev pub towards_text : Towards → List ℕ
towards_text (One replica) = number_text replica
towards_text All = codes "all"

-- the words of a lie
abbrev pub lie_words : Lie → List (List ℕ)
lie_words lie = number_text lie.liar ∷ number_text lie.height ∷ number_text lie.phase ∷ batch_text lie.batch ∷ towards_text lie.to ∷ []

-- the words of a lie whose proof has the reports of another phase
abbrev pub stale_words : Lie → ℕ → List (List ℕ)
stale_words lie source =
    number_text lie.liar ∷ number_text lie.height ∷ number_text lie.phase ∷ number_text source ∷ batch_text lie.batch
    ∷ towards_text lie.to ∷ []

-- the words of a command
abbrev pub command_words : Command → List (List ℕ)
command_words (command.Submit replica bytes) = codes "submit" ∷ number_text replica ∷ bytes_words bytes
command_words (command.Propose replica height) = codes "propose" ∷ number_text replica ∷ number_text height ∷ []
command_words (command.End replica) = codes "end" ∷ number_text replica ∷ []
command_words (command.Pass from index to) = codes "pass" ∷ number_text from ∷ number_text index ∷ number_text to ∷ []
command_words (command.Inject to bytes) = codes "inject" ∷ number_text to ∷ hex_words bytes
command_words (command.Execute replica) = codes "execute" ∷ number_text replica ∷ []
command_words (command.Query replica key) = codes "query" ∷ number_text replica ∷ bytes_words key
command_words (command.Retire replica floor) = codes "retire" ∷ number_text replica ∷ number_text floor ∷ []
command_words (command.Info replica) = codes "info" ∷ number_text replica ∷ []
command_words command.Silent = codes "silent" ∷ []
command_words command.Round = codes "round" ∷ []
command_words (command.LieReport lie) = codes "lie-report" ∷ lie_words lie
command_words (command.LieLock lie) = codes "lie-lock" ∷ lie_words lie
command_words (command.LieStale lie source) = codes "lie-stale" ∷ stale_words lie source
command_words (command.LieAck lie) = codes "lie-ack" ∷ lie_words lie

-- the line of a command
unfoldable pub command_text : Command → List ℕ
command_text c = words_text (command_words c)

-- the words of the cluster
abbrev pub config_words : ℕ → ℕ → AppKind → List (List ℕ)
config_words replicas faults kind = codes "config" ∷ number_text replicas ∷ number_text faults ∷ number_text (kind_number kind) ∷ []

-- the words of a parameter set
abbrev pub params_words : Params → List (List ℕ)
params_words keys = codes "keys" ∷ number_text (bits_of keys.width) ∷ number_text (levels_of keys.height) ∷ []

-- the line of a parameter set, if one is set
abbrev pub keys_lines : Option Params → List (List ℕ)
keys_lines None = []
keys_lines (Some keys) = words_text (params_words keys) ∷ []

-- the words that set version 2 for the frames
abbrev pub frames_words : List (List ℕ)
frames_words = codes "frames" ∷ codes "2" ∷ []

-- the line of the version of the frames; there is none for version 1
abbrev pub frames_lines : Version → List (List ℕ)
frames_lines version.One = []
frames_lines version.Two = words_text frames_words ∷ []

-- the line of a liar
abbrev pub liar_text : ℕ → List ℕ
liar_text replica = words_text (codes "liar" ∷ number_text replica ∷ [])

-- the lines before the commands
abbrev pub setup_lines : Plan → List (List ℕ)
setup_lines p = words_text (config_words p.replicas p.faults p.kind) ∷ keys_lines p.keys ++ frames_lines p.frames ++ map liar_text p.liars

-- the lines of a plan, without comments and empty lines
unfoldable pub plan_lines : Plan → List (List ℕ)
plan_lines p = setup_lines p ++ map command_text p.commands
