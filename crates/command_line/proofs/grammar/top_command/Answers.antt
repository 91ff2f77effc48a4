use Rattle.std.proofs.Common.{◌≡◌, ◌∙◌, ap, true}
use Rattle.clap.specs.Words.{App, app_of, new_app}
use Rattle.clap.specs.Simple.{app_of_fields}
use Rattle.command_line.proofs.grammar.top_command.Goals as goal

abbrev with_version : App → App
with_version a = record a { top = record a.top { has_version = true } }

abbrev with_requirement : App → App
with_requirement a = record a { top = record a.top { subcommand_required = true } }

pub returns : goal.returns
returns g c =
    let named : app_of c.about.result ≡ new_app (g.A.Opening.words.name) =
    ap app_of_fields c.about.ensures ∙ c.new.ensures.app ∙ ap new_app c.name-name.ensures in
    let versioned : app_of c.after_help.result ≡ with_version (new_app (g.A.Opening.words.name)) =
    ap app_of_fields c.after_help.ensures ∙ ap app_of_fields c.version.ensures ∙ ap with_version named in
    ap app_of_fields c.subcommand_required.ensures ∙ ap with_requirement versioned
