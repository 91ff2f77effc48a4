use Rattle.std.proofs.Common.{◌≡◌, ◌∙◌, true, false, sym, subst, rules}
use Rattle.plain_text.specs.Numbers.{has_needless_zero}
use Rattle.plain_text.proofs.NumberLemmas.{number_text-bare, number_value, read_number}
use Rattle.plain_text.proofs.numbers.number.Goals as goal

pub returns-then-has_needless_zero-clause-found : goal.returns-then-has_needless_zero-clause-found
returns-then-has_needless_zero-clause-found c = λ n small e.
    let needless : has_needless_zero c.args.word.now ≡ true = search rules in
    let bare : has_needless_zero c.args.word.now ≡ false = subst (λ t. has_needless_zero t ≡ false) (sym e) (number_text-bare n small) in
    let bad : true ≡ false = sym needless ∙ bare in
    absurd cc

pub returns-clause-value : goal.returns-clause-value
returns-clause-value c =
    let bare : has_needless_zero c.args.word.now ≡ false = search rules in
    number_value c.args.word.now c.decimal.result bare (search rules) c.decimal.ensures.value

pub returns-clause-found : goal.returns-clause-found
returns-clause-found c = λ n small e. read_number c.args.word.now n c.decimal.result small e c.decimal.ensures.value c.decimal.ensures.none
