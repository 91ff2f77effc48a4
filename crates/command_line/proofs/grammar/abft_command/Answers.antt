use Rattle.ledger_model.specs.declared.config.AppKinds.{AppKinds}
use Rattle.ledger_model.specs.declared.config.AppKinds.TheVariants.{Three, OwnAlone}
use Rattle.app_states.specs.ProgramWords.{ProgramWords}
use Rattle.std.proofs.Common.{◌≡◌, ◌∙◌, ap, List, map, refl}
use Rattle.std.proofs.lemmas.Result.{IfOk-weaker}
use Rattle.clap.specs.Words.{App, Text, app_of, new_app}
use Rattle.command_line.specs.declared.subcommand.Subcommand.{Subcommand}
use Rattle.command_line.specs.Grammar.{abft_app, at_top, subcommand_app, subcommand_apps, with_subcommands}
use Rattle.command_line.proofs.Chains.{commands_added}
use Rattle.command_line.proofs.grammar.abft_command.Goals as goal

-- the rows of a table are the grammar of a program with these words
AreGrammar : List Subcommand → ProgramWords → Type 0
AreGrammar rows program = with_subcommands (at_top (new_app program.name)) (map (subcommand_app program) rows) ≡ abft_app program

-- commands made of the rows are the grammar of every program, if they are that of those with each kinds of applications
every_program : (rows : List Subcommand) (program : ProgramWords) (made : List App) → made ≡ subcommand_apps program rows
    → ((name tx : Text) → AreGrammar rows (record { name = name; first_tx = tx; kinds = Three }))
    → ((name tx : Text) → AreGrammar rows (record { name = name; first_tx = tx; kinds = OwnAlone }))
    → with_subcommands (at_top (new_app program.name)) made ≡ abft_app program
unfolding AreGrammar subcommand_apps
every_program rows program made same three own =
    ap (with_subcommands (at_top (new_app program.name))) same ∙ by program.name program.first_tx program.kinds
  where
    by : (name tx : Text) (kinds : AppKinds) → AreGrammar rows (record { name = name; first_tx = tx; kinds = kinds })
    by name tx Three = three name tx
    by name tx OwnAlone = own name tx

pub returns : goal.returns
unfolding AreGrammar
returns g c = IfOk-weaker c.subcommands.result _ _ (λ d added. commands_added _ d _ c.in_ok-commands.ensures.local added
    ∙ ap (λ a. with_subcommands a (map app_of c.in_ok-commands.commands.items)) c.top_command.ensures
    ∙ every_program _ (g.A.Opening.words) (map app_of c.in_ok-commands.commands.items) c.in_ok-commands.ensures.apps (λ name tx. refl)
    (λ name tx. refl)) c.subcommands.ensures
