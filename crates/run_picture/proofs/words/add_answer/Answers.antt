use Rattle.std.proofs.Common.{◌≡◌, ◌∙◌, ◌++◌, [], ◌∷◌, ap, sym, subst, refl}
use Rattle.std.specs.Prelude.{OnOk, codes}
use Rattle.ledger_model.specs.Causes.{cause_text}
use Rattle.run_picture.specs.Words.{answer_words}
use Rattle.run_picture.proofs.Joining.{appended_joined}
use Rattle.run_picture.proofs.words.add_answer.Goals as goal

pub returns-in_ok-add-in-Err : goal.returns-in_ok-add-in-Err
returns-in_ok-add-in-Err c =
    let out = c.args.out.now.items in
    let next = c.add-in-Err.new.out.items in
    subst (λ a. OnOk c.add-in-Err-2.result (c.add-in-Err-2.new.out.items ≡ out ++ answer_words a)) (sym c.in-Err.is)
    (subst (λ t. OnOk c.add-in-Err-2.result (c.add-in-Err-2.new.out.items ≡ t))
    (appended_joined out (codes "; ignored for cause " ∷ cause_text c.in-Err.cause ∷ []) (next ++ c.text.result.now)
    (next, (c.in_ok-add-in-Err.ensures, (next ++ c.text.result.now, (ap (λ t. next ++ t) c.text.ensures, refl)))))
    c.add-in-Err-2.ensures)
