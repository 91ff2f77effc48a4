use Rattle.std.proofs.Common.{◌≡◌, ◌∙◌, ap, false, map, subst, sym}
use Rattle.std.specs.List.{All}
use Rattle.std.proofs.lemmas.List.Elements.{All-push}
use Rattle.clap.specs.Words.{app_of}
use Rattle.clap.specs.declared.builder.command.Command.{Command}
use Rattle.clap.specs.declared.builder.command.Command.TheViews.{out-Command as fields_of}
use Rattle.command_line.specs.Grammar.{subcommand_app}
use Rattle.command_line.proofs.Chains.{one_more_made}
use Rattle.command_line.proofs.subcommand.clap_commands.Goals as goal

pub loop-subcommand-preserved : goal.loop-subcommand-preserved
loop-subcommand-preserved g c = record {
  apps = ap (map app_of) c.in_ok-push.ensures.items
      ∙ one_more_made app_of (subcommand_app (g.A.Opening.words)) c.loop-subcommand.commands.items c.args.subcommands.now c.loop-subcommand.subcommand-index
      c.in_ok-command.command _ c.loop-subcommand-test.true c.loop-subcommand.invariant.apps c.in_ok-command.ensures.app;
  local = subst (λ cs. All (λ (x : Command). (fields_of x).has_globals ≡ false) cs) (sym c.in_ok-push.ensures.items)
      (All-push (λ (x : Command). (fields_of x).has_globals ≡ false) c.loop-subcommand.commands.items c.in_ok-command.command
      c.loop-subcommand.invariant.local c.in_ok-command.ensures.local);
}
