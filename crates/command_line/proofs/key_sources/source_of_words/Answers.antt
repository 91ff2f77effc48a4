use Rattle.std.proofs.Common.{◌≡◌, map, [], subst}
use Rattle.clap.proofs.TakesLemmas.{passed_up}
use Rattle.clap.specs.Words.{subcommand_rows_of}
use Rattle.cluster_setup.specs.declared.settings.Settings.{Settings}
use Rattle.command_line.specs.Faults.{kinds_of}
use Rattle.command_line.specs.Options.{IsSet, WantsMemory}
use Rattle.command_line.specs.KeySources.{IsSourceIn}
use Rattle.command_line.specs.declared.given_keys.GivenKeys.{GivenKeys}
use Rattle.command_line.proofs.SourceLemmas.{no_file, none_again, sets_so, source_told}
use Rattle.command_line.proofs.key_sources.source_of_words.Goals as goal

pub returns-in_err-_settings-clause-refused : goal.returns-in_err-_settings-clause-refused
returns-in_err-_settings-clause-refused g c =
    passed_up _ c.in_err-_settings.field-0.0
    (λ e. kinds_of (g.A.Opening.words) (map (λ w. w.now) c.args.words.now) ≡ []
    → (given : GivenKeys) (s : Settings) → IsSet (g.A.Opening.words) (g.A.Application.meaning) given (map (λ w. w.now) c.args.words.now) s
    → WantsMemory e)
    c.from_residual-in_err-_settings.ensures.1
    (none_again (g.A.Opening.words) (g.A.Application.meaning) (map (λ w. w.now) c.args.words.now)
    (subcommand_rows_of c.in_ok-matches.matches) _ c.in_err-_settings.field-0.0 c.in_ok-matches.ensures.found
    (no_file (subcommand_rows_of c.in_ok-matches.matches) c.source_of-source.result c.in_default.not-ClusterFile c.source_of-source.ensures)
    c.in_err-_settings.ensures.refused)

pub returns-clause-source : goal.returns-clause-source
returns-clause-source g c =
    source_told (g.A.Opening.words) (g.A.Application.meaning) (map (λ w. w.now) c.args.words.now) c.source_of-source.result
    c.in_default.not-ClusterFile
    (sets_so (g.A.Opening.words) (g.A.Application.meaning) (map (λ w. w.now) c.args.words.now) (subcommand_rows_of c.in_ok-matches.matches) _
    c.in_ok-_settings._settings c.in_ok-matches.ensures.taken c.in_ok-matches.ensures.found c.in_ok-_settings.ensures.set)
    (subst (λ o. IsSourceIn o c.source_of-source.result) c.in_ok-matches.ensures.found c.source_of-source.ensures)
