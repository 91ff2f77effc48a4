use Rattle.std.proofs.Common.{ℕ, ◌≤◌, Option, IfNone, IsTrue, sym, subst, rules}
use Rattle.std.specs.Str.Parse.{digits_value}
use Rattle.plain_text.specs.Numbers.{is_decimal}
use Rattle.plain_text.proofs.NumberLemmas.{too_large}
use Rattle.plain_text.proofs.numbers.decimal.Goals as goal

pub returns-clause-none : goal.returns-clause-none
returns-clause-none c = subst (λ (o : Option ℕ). IfNone o
    (IsTrue (is_decimal c.args.text.now) → 4294967296 ≤ digits_value 10 c.args.text.now)) (sym c.ok.ensures.value)
    (too_large c.args.text.now c.parse.result c.parse.ensures.value.0)

pub returns-clause-value : goal.returns-clause-value
returns-clause-value c = search rules
