use Rattle.std.proofs.Common.{◌≡◌, ◌∙◌, sym, rules, tests}
use Rattle.std.specs.Prelude.{◌==◌, Some}
use Rattle.std.specs.Option.{option_map}
use Rattle.std.specs.List.{find}
use Rattle.std.proofs.lemmas.Iterator.{YieldsList-from_slice}
use Rattle.std.proofs.lemmas.Iterator.Consumers.{YieldsList-from_copied}
use Rattle.std.proofs.lemmas.Iterator.Search.{find_from_yields_List}
use Rattle.scenario_texts.specs.Reading.{liar_of, word_number}
use Rattle.scenario_texts.proofs.command_reading.liar.Goals as goal
use Rattle.std.proofs.lemmas.Iterator.Adapters.{option_map_id}

pub returns : goal.returns
unfolding liar_of
returns c =
    let named : word_number c.args.word.now ≡ Some c.in_ok-number.number = search rules in
    let found : option_map (λ x. x) c.find.result ≡ find (λ liar. liar == c.in_ok-number.number) c.args.liars.now =
    find_from_yields_List (λ liar. liar == c.in_ok-number.number) _ _ c.find.result c.find.ensures.ran
    (YieldsList-from_copied (YieldsList-from_slice c.args.liars.now (cc))) (λ x b q k. search (rules, tests)) in
    rw named (sym (option_map_id c.find.result) ∙ found)
