use Rattle.std.proofs.Common.{◌≡◌, false, sym, ap, rules}
use Rattle.std.specs.Char.{is_ascii_uppercase}
use Rattle.std.specs.List.{list_any}
use Rattle.std.specs.Result.{result_ok}
use Rattle.scenario_texts.specs.Reading.{hex_of}
use Rattle.scenario_texts.proofs.fields.hex_bytes.Goals as goal

pub returns-in-Ok : goal.returns-in-Ok
unfolding hex_of
returns-in-Ok c =
    let lower : list_any is_ascii_uppercase c.args.word.now ≡ false = search rules in
    rw (c.in-Ok.bytes-is, lower) (ap result_ok (sym c.in-Ok.ensures.ok))
