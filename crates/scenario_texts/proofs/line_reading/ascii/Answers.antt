use Rattle.std.proofs.Common.{◌≡◌, ◌∙◌, true, ap, rules}
use Rattle.std.specs.Char.{is_ascii}
use Rattle.std.specs.List.{list_all}
use Rattle.std.specs.Option.{option_map}
use Rattle.scenario_texts.proofs.LineReading.{ascii_text}
use Rattle.scenario_texts.proofs.line_reading.ascii.Goals as goal

pub returns : goal.returns
returns c =
    let all : list_all is_ascii c.args.line.now ≡ true = search rules in
    ap (option_map (λ text. text.now)) c.ok.ensures.value ∙ ascii_text _ c.args.line.now c.from_utf8.result all c.from_utf8.ensures.cases
