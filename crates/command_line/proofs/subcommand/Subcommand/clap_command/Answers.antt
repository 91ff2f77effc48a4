use Rattle.std.proofs.Common.{◌≡◌, ◌∙◌, ap, map}
use Rattle.std.proofs.lemmas.Result.{IfOk-weaker}
use Rattle.clap.specs.Words.{app_of, new_app, rule_of}
use Rattle.clap.specs.Simple.{app_of_fields}
use Rattle.clap.specs.declared.builder.command.Command.TheOpen.{Command-F}
use Rattle.clap.specs.declared.builder.command.Command.{Command}
use Rattle.command_line.specs.Grammar.{with_rules}
use Rattle.command_line.proofs.Chains.{args_added}
use Rattle.command_line.proofs.subcommand.Subcommand.clap_command.Goals as goal

pub returns-clause-app : goal.returns-clause-app
returns-clause-app g c =
    let start : app_of c.with_usage.result ≡ new_app c.args.self.now.name.now =
    c.with_usage.ensures.app ∙ ap app_of_fields c.after_help-command.ensures ∙ ap app_of_fields c.about.ensures ∙ c.new.ensures.app in
    let local = c.with_usage.ensures.local ∙ ap (λ (f : Command-F Command). f.has_globals) c.after_help-command.ensures
    ∙ ap (λ (f : Command-F Command). f.has_globals) c.about.ensures ∙ c.new.ensures.local in
    IfOk-weaker c.args-2.result _ _ (λ d added. (args_added _ d _ local c.in_ok-args.ensures.local added).0
    ∙ ap (λ a. with_rules a (map rule_of c.in_ok-args.args.items)) start
    ∙ ap (with_rules (new_app c.args.self.now.name.now)) c.in_ok-args.ensures.rules) c.args-2.ensures

pub returns-clause-local : goal.returns-clause-local
returns-clause-local g c =
    let local = c.with_usage.ensures.local ∙ ap (λ (f : Command-F Command). f.has_globals) c.after_help-command.ensures
    ∙ ap (λ (f : Command-F Command). f.has_globals) c.about.ensures ∙ c.new.ensures.local in
    IfOk-weaker c.args-2.result _ _ (λ d added. (args_added _ d _ local c.in_ok-args.ensures.local added).1) c.args-2.ensures
