use Rattle.std.proofs.Common.{◌≡◌, Some, false, rules, tests, sym, ap, ◌∙◌}
use Rattle.std.specs.Prelude.{slice_get}
use Rattle.std.specs.List.{list_all}
use Rattle.std.specs.Option.{option_map_or}
use Rattle.std.proofs.lemmas.Iterator.{YieldsList-from_slice}
use Rattle.std.proofs.lemmas.Iterator.Search.{all_from_yields_List}
use Rattle.ledger_model.specs.Values.{same_value}
use Rattle.tally.proofs.report_counts.holds_one.Goals as goal

pub returns-in-Some : goal.returns-in-Some
returns-in-Some c =
    let all : c.all.result ≡ list_all (same_value c.in-Some.first.now) c.args.signed.now.report.locked =
    all_from_yields_List (same_value c.in-Some.first.now) _ _ _ c.all.ensures.ran
    (YieldsList-from_slice c.args.signed.now.report.locked cc) (λ x b q k. search (rules, tests)) in
    let first : slice_get c.args.signed.now.report.locked 0 ≡ Some c.in-Some.first.now = search rules in
    all ∙ sym (ap (λ o. option_map_or (λ v. list_all (same_value v) c.args.signed.now.report.locked) o false) first)
