use Rattle.std.proofs.Common.{◌∷◌, ◌++◌, arith}
use Rattle.plain_text.specs.Numbers.{number_text}
use Rattle.command_line.proofs.receipts.parts_of.Goals as goal

pub returns-in_err-first-clause-found : goal.returns-in_err-first-clause-found
returns-in_err-first-clause-found c = λ replica index word small fits e.
    absurd (c.in_err-first.ensures.found replica (number_text index ++ (0x3a ∷ word)) (omega (arith, small)) e)

pub returns-in_err-second-clause-found : goal.returns-in_err-second-clause-found
returns-in_err-second-clause-found c = λ replica index word small fits e.
    let first = c.in_ok-first.ensures.found replica (number_text index ++ (0x3a ∷ word)) (omega (arith, small)) e in
    absurd (c.in_err-second.ensures.found index word fits first.1)

pub returns-in_err-replica-clause-found : goal.returns-in_err-replica-clause-found
returns-in_err-replica-clause-found c = λ replica index word small fits e.
    let first = c.in_ok-first.ensures.found replica (number_text index ++ (0x3a ∷ word)) (omega (arith, small)) e in
    grind (arith, first)

pub returns-clause-some : goal.returns-clause-some
returns-clause-some c = grind arith

pub returns-clause-found : goal.returns-clause-found
returns-clause-found c = λ replica index word small fits e.
    let first = c.in_ok-first.ensures.found replica (number_text index ++ (0x3a ∷ word)) (omega (arith, small)) e in
    let second = c.in_ok-second.ensures.found index word fits first.1 in
    (grind (arith, first), second)
