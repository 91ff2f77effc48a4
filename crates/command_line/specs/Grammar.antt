-- The command line of the program, in clap's terms: the options of each subcommand, and their defaults.
use Rattle.app_states.specs.ProgramWords.{ProgramWords}
use Rattle.ledger_model.specs.declared.config.AppKinds.{AppKinds}
use Rattle.ledger_model.specs.declared.config.AppKinds.TheVariants.{Three, OwnAlone}
use Rattle.std.specs.Prelude.{Some, Bool, true, false, List, [], ◌∷◌, codes, filter, map}
use Rattle.clap.specs.Words.{App, Rule, Text, new_app, new_rule, with_rule, with_subcommand}
use Rattle.clap.specs.declared.builder.action.ArgAction.TheVariants.{SetTrue}
use Rattle.command_line.specs.declared.subcommand.Argument.{Argument}
use Rattle.command_line.specs.declared.subcommand.Kind.{Kind}
use Rattle.command_line.specs.declared.subcommand.Kind.TheVariants.{Value, Choice, FirstTx, Optional, Flag, Word}
use Rattle.command_line.specs.declared.subcommand.Subcommand.{Subcommand}

-- an option with a value: its name, and the value if the words give none
abbrev pub option_rule : Text → Text → Rule
option_rule name default = record (new_rule name) { long = Some name; defaults = default ∷ [] }

-- an option with a value, and no value if the words give none
abbrev pub optional_rule : Text → Rule
optional_rule name = record (new_rule name) { long = Some name }

-- a flag: an option without a value
abbrev pub flag_rule : Text → Rule
flag_rule name = record (new_rule name) { long = Some name; action = Some SetTrue }

-- a word that is required
abbrev pub word_rule : Text → Rule
word_rule name = record (new_rule name) { required = true }

-- an argument by its kind
abbrev pub kind_rule : ProgramWords → Text → Kind → Rule
kind_rule program name (Value default) = option_rule name default.now
kind_rule program name (Choice default) = option_rule name default.now
kind_rule program name FirstTx = option_rule name program.first_tx
kind_rule program name Optional = optional_rule name
kind_rule program name Flag = flag_rule name
kind_rule program name Word = word_rule name

abbrev pub argument_rule : ProgramWords → Argument → Rule
argument_rule program a = kind_rule program a.name.now a.kind

-- a program has the argument: only a program of the three has one that chooses among them
abbrev pub is_had : AppKinds → Kind → Bool
is_had OwnAlone (Choice default) = false
is_had kinds kind = true

-- the command with these arguments, in order
abbrev pub with_rules : App → List Rule → App
with_rules a [] = a
with_rules a (r ∷ rs) = with_rules (with_rule a r) rs

-- a subcommand: its name, and those of its arguments that the program has
abbrev pub subcommand_app : ProgramWords → Subcommand → App
subcommand_app program s =
    with_rules (new_app s.name.now) (map (argument_rule program) (filter (λ a. is_had program.kinds a.kind) s.arguments.now))

-- subcommands in order
unfoldable pub subcommand_apps : ProgramWords → List Subcommand → List App
subcommand_apps program rows = map (subcommand_app program) rows

-- the command with these subcommands, in order
abbrev pub with_subcommands : App → List App → App
with_subcommands a [] = a
with_subcommands a (s ∷ ss) = with_subcommands (with_subcommand a s.top) ss

-- the seed of all keys, which every subcommand has
abbrev pub seed_rule : Rule
seed_rule = option_rule (codes "seed") (codes "0000000000000000000000000000000000000000000000000000000000000000")

-- the options of the seed: its digits, or a file that has it
abbrev pub with_seed : App → App
with_seed a = with_rule (with_rule a seed_rule) (optional_rule (codes "seed-file"))

-- the option that chooses an application, in a program of the three
abbrev pub with_kind : AppKinds → App → App
with_kind Three a = with_rule a (option_rule (codes "kind") (codes "1"))
with_kind OwnAlone a = a

-- the options of a cluster, which every subcommand but `simulate` has
abbrev pub with_cluster : ProgramWords → App → App
with_cluster program a =
    with_seed (with_rule (with_rule (with_rule (with_kind program.kinds (with_rule (with_rule a
    (option_rule (codes "n") (codes "4")))
    (option_rule (codes "t") (codes "1"))))
    (option_rule (codes "w") (codes "4")))
    (option_rule (codes "tree") (codes "5")))
    (option_rule (codes "frames") (codes "1")))

-- the statement to sign: a word that is required
abbrev pub what_rule : Rule
what_rule = word_rule (codes "what")

-- the options that only `abft sign` has
abbrev pub with_sign : ProgramWords → App → App
with_sign program a =
    with_rule (with_rule (with_rule (with_rule a
    (option_rule (codes "replica") (codes "0")))
    (option_rule (codes "height") (codes "1")))
    (option_rule (codes "phase") (codes "1")))
    (option_rule (codes "value") program.first_tx)

-- `abft sign`: the statement to sign, and its options
abbrev pub sign_app : ProgramWords → App
sign_app program = with_sign program (with_rule (with_cluster program (new_app (codes "sign"))) what_rule)

-- the options that only `abft deliver` has
abbrev pub with_deliver : ProgramWords → App → App
with_deliver program a =
    with_rule (with_rule (with_rule (with_rule a
    (option_rule (codes "replica") (codes "1")))
    (option_rule (codes "value") program.first_tx))
    (option_rule (codes "height") (codes "1")))
    (option_rule (codes "rounds") (codes "1"))

-- `abft deliver`: its options
abbrev pub deliver_app : ProgramWords → App
deliver_app program = with_deliver program (with_cluster program (new_app (codes "deliver")))

-- `abft simulate`: the seed, and whether to write histories
abbrev pub simulate_app : App
simulate_app = with_rule (with_seed (new_app (codes "simulate"))) (flag_rule (codes "histories"))

-- the options of a run that have a value
abbrev pub with_run : ProgramWords → App → App
with_run program a =
    with_rule (with_rule (with_rule (with_rule a
    (option_rule (codes "tx") program.first_tx))
    (option_rule (codes "rounds") (codes "40")))
    (option_rule (codes "base-ms") (codes "200")))
    (option_rule (codes "log") (codes "info"))

-- the options of a running cluster, which `abft cluster` and `abft serve` have
abbrev pub with_running : ProgramWords → App → App
with_running program a =
    with_rule (with_rule (with_rule (with_rule (with_rule (with_run program (with_cluster program a))
    (flag_rule (codes "quiet")))
    (flag_rule (codes "stop-at-eof")))
    (flag_rule (codes "no-empty-blocks")))
    (flag_rule (codes "steady")))
    (optional_rule (codes "histories"))

-- `abft cluster`: its options
abbrev pub cluster_app : ProgramWords → App
cluster_app program = with_running program (new_app (codes "cluster"))

-- the options that only `abft serve` has
abbrev pub with_serve : App → App
with_serve a =
    with_rule (with_rule (with_rule (with_rule a
    (option_rule (codes "port") (codes "0")))
    (optional_rule (codes "http")))
    (option_rule (codes "sessions") (codes "1")))
    (option_rule (codes "client-entries") (codes "32768"))

-- `abft serve`: its options
abbrev pub serve_app : ProgramWords → App
serve_app program = with_serve (with_running program (new_app (codes "serve")))

-- `abft audit`: the options of a cluster, or its file, and a receipt
abbrev pub audit_app : ProgramWords → App
audit_app program =
    with_rule (with_rule (with_cluster program (new_app (codes "audit")))
    (optional_rule (codes "cluster")))
    (optional_rule (codes "receipt"))

-- the options that only `abft draw` has
abbrev pub with_draw : App → App
with_draw a =
    with_rule (with_rule (with_rule a
    (option_rule (codes "height") (codes "0")))
    (option_rule (codes "first") (codes "0")))
    (option_rule (codes "last") (codes "64"))

-- `abft draw`: the options of a cluster, or its file, and the part to draw
abbrev pub draw_app : ProgramWords → App
draw_app program = with_draw (with_rule (with_cluster program (new_app (codes "draw"))) (optional_rule (codes "cluster")))

-- `abft keys`: the options of a cluster, and the file to which a random seed is written
abbrev pub keys_app : ProgramWords → App
keys_app program = with_rule (with_cluster program (new_app (codes "keys"))) (optional_rule (codes "write-seed"))

-- a subcommand is required, and `--version` exists
abbrev pub at_top : App → App
at_top a = record a { top = record a.top { has_version = true; subcommand_required = true } }

-- the program: its eight subcommands
abbrev pub abft_app : ProgramWords → App
abft_app program =
    with_subcommand (with_subcommand (with_subcommand (with_subcommand
    (with_subcommand (with_subcommand (with_subcommand (with_subcommand (at_top (new_app program.name))
    (sign_app program).top)
    (deliver_app program).top)
    simulate_app.top)
    (cluster_app program).top)
    (serve_app program).top)
    (audit_app program).top)
    (draw_app program).top)
    (keys_app program).top
