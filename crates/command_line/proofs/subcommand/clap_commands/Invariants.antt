-- the commands so far are those described so far, and none has a global argument
use Rattle.std.proofs.Common.{◌≡◌, false, map, take}
use Rattle.std.specs.List.{All}
use Rattle.clap.specs.Words.{app_of}
use Rattle.clap.specs.declared.builder.command.Command.TheViews.{out-Command as fields_of}
use Rattle.command_line.specs.Grammar.{subcommand_app}
use Rattle.command_line.proofs.subcommand.clap_commands.Given as goal

abbrev pub invariant-loop-subcommand : goal.invariant-loop-subcommand
invariant-loop-subcommand g l = record {
  apps : map app_of l.commands.items ≡ map (subcommand_app (g.A.Opening.words)) (take l.subcommand-index l.subcommands);
  local : All (λ c. (fields_of c).has_globals ≡ false) l.commands.items;
}
