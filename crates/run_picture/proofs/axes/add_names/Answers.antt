use Rattle.std.proofs.Common.{◌≡◌, ◌∙◌, ◌+◌, ◌++◌, [], ◌∷◌, ap, subst, refl}
use Rattle.std.specs.Prelude.{OnOk, codes}
use Rattle.run_picture.specs.Shapes.{name_text, word_text}
use Rattle.run_picture.proofs.Joining.{appended_joined}
use Rattle.run_picture.proofs.axes.add_names.Goals as goal

pub returns : goal.returns
returns c =
    let x = c.args.x in
    subst (λ t. OnOk c.add_word.result (c.add_word.new.out.items ≡ t))
    (appended_joined c.args.out.now.items (name_text (x + 4) 14 (codes "phase") c.args.phase ∷ name_text (x + 4) 28
    (codes "owner") c.args.owner ∷ name_text (x + 4) 42 (codes "round") c.args.round ∷ word_text (x + 4) 56 c.args.place.now ∷ [])
    (c.add_name-3.new.out.items ++ word_text (x + 4) 56 c.args.place.now) (
      c.add_name.new.out.items,
      (
        c.in_ok-add_name.ensures ∙ ap (λ n. c.args.out.now.items ++ name_text (x + 4) 14 (codes "phase") n) c.from.ensures,
        (
          c.add_name-2.new.out.items,
          (
            c.in_ok-add_name-2.ensures ∙ ap (λ n. c.add_name.new.out.items ++ name_text (x + 4) 28 (codes "owner") n) c.from-2.ensures,
            (
              c.add_name-3.new.out.items,
              (
                c.in_ok-add_name-3.ensures ∙ ap (λ n. c.add_name-2.new.out.items ++ name_text (x + 4) 42
                    (codes "round") n) c.from-3.ensures,
                (c.add_name-3.new.out.items ++ word_text (x + 4) 56 c.args.place.now, (refl, refl)),
              ),
            ),
          ),
        ),
      ),
    ))
    c.add_word.ensures
