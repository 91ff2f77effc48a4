use Rattle.std.proofs.Common.{◌<◌, ◌^◌, rules}
use Rattle.std.specs.Prelude.{IfSome}
use Rattle.scenario_texts.proofs.Numbers.{number_of-is}
use Rattle.scenario_texts.proofs.fields.number.Goals as goal

pub returns : goal.returns
returns c =
    let small : IfSome c.number.result (λ n. n < 2 ^ 32) = search rules in
    number_of-is c.args.word.now c.number.result small c.number.ensures.value c.number.ensures.found
