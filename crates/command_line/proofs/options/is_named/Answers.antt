use Rattle.std.proofs.Common.{◌≡◌, ◌∙◌, ◌↔◌, IsTrue, Some, rules, subst}
use Rattle.clap.specs.Words.{found_of}
use Rattle.clap.specs.declared.parser.matches.ValueSource.TheVariants.{CommandLine}
use Rattle.command_line.proofs.MatchesLemmas.{source_is}
use Rattle.command_line.proofs.options.is_named.Goals as goal

pub returns : goal.returns
returns c =
    let source = c.value_source.ensures ∙ source_is (found_of c.args.matches.now) c.args.name.now in
    let told : IsTrue c.eq.result ↔ (c.value_source.result ≡ Some CommandLine) = search (rules, c.eq.ensures) in
    subst (λ o. IsTrue c.eq.result ↔ (o ≡ Some CommandLine)) source told
