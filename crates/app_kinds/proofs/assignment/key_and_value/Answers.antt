-- The parts round the first equals sign.
use Rattle.std.proofs.Common.{◌∙◌, sym, take_all, arith, length-drop, ℕ}
use Rattle.app_kinds.proofs.Splitting.{parts-at, parts-whole}
use Rattle.app_kinds.proofs.assignment.key_and_value.Goals as goal

pub returns-in-Some-clause-key : goal.returns-in-Some-clause-key
returns-in-Some-clause-key c = sym (parts-at c.args.tx.now c.in-Some.at (sym c.in-Some.is ∙ c.equals_sign.ensures)).1

pub returns-in-Some-clause-value : goal.returns-in-Some-clause-value
returns-in-Some-clause-value c =
    take_all _ _ (omega (arith, length-drop {A = ℕ}))
    ∙ sym (parts-at c.args.tx.now c.in-Some.at (sym c.in-Some.is ∙ c.equals_sign.ensures)).2

pub returns-in-None-clause-key : goal.returns-in-None-clause-key
returns-in-None-clause-key c = sym (parts-whole c.args.tx.now (sym c.in-None.is ∙ c.equals_sign.ensures)).0

pub returns-in-None-clause-value : goal.returns-in-None-clause-value
returns-in-None-clause-value c = sym (parts-whole c.args.tx.now (sym c.in-None.is ∙ c.equals_sign.ensures)).1
