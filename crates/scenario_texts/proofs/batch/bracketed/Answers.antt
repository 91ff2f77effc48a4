use Rattle.std.proofs.Common.{◌≡◌, ◌∙◌, lit<, sym, ap}
use Rattle.std.specs.Prelude.{Some, None}
use Rattle.std.specs.Option.{option_map}
use Rattle.std.proofs.lemmas.Str.Pattern.{strip_prefix_char, strip_suffix_char}
use Rattle.scenario_texts.specs.Reading.{bracketed, without_first}
use Rattle.scenario_texts.proofs.BatchReading.{first_stripped, last_stripped}
use Rattle.scenario_texts.proofs.batch.bracketed.Goals as goal

pub returns-in_default : goal.returns-in_default
unfolding bracketed
returns-in_default c =
    let first = first_stripped 91 c.args.word.now c.strip_prefix.result
    (strip_prefix_char 91 c.args.word.now c.strip_prefix.result c.strip_prefix.ensures.cases (lit< tt)) in
    let none : without_first 91 c.args.word.now ≡ None = sym first ∙ ap (option_map (λ x. x.now)) c.in_default.is in
    rw none (λ i. None)

pub returns : goal.returns
unfolding bracketed
returns c =
    let first = first_stripped 91 c.args.word.now c.strip_prefix.result
    (strip_prefix_char 91 c.args.word.now c.strip_prefix.result c.strip_prefix.ensures.cases (lit< tt)) in
    let last = last_stripped 93 c.in-Some.rest.now c.strip_suffix.result
    (strip_suffix_char 93 c.in-Some.rest.now c.strip_suffix.result c.strip_suffix.ensures.cases (lit< tt)) in
    let some : without_first 91 c.args.word.now ≡ Some c.in-Some.rest.now = sym first ∙ ap (option_map (λ x. x.now)) c.in-Some.is in
    rw some last
