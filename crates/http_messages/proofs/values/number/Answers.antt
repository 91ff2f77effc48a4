use Rattle.std.proofs.Common.{◌≡◌, ◌∙◌, ◌<◌, ◌^◌, ap, rules}
use Rattle.std.specs.Prelude.{IfSome}
use Rattle.http_messages.specs.Values.{decimal_number}
use Rattle.http_messages.proofs.NumberReading.{number_of-is, number_of-no_text}
use Rattle.http_messages.proofs.values.number.Goals as goal

pub returns-in-Ok : goal.returns-in-Ok
returns-in-Ok c =
    let small : IfSome c.decimal.result (λ n. n < 2 ^ 32) = search rules in
    let same : c.in-Ok.digits.now ≡ c.args.digits.now = c.in-Ok.ensures.cases.0 in
    number_of-is c.in-Ok.digits.now c.decimal.result small c.decimal.ensures.value c.decimal.ensures.none ∙ ap decimal_number same

pub returns-in-Err : goal.returns-in-Err
returns-in-Err c = number_of-no_text c.args.digits.now c.in-Err.ensures.cases.0
