use Rattle.std.proofs.Common.{◌≡◌, ◌∙◌, ◌+◌, ◌++◌, [], ◌∷◌, ap, subst, refl}
use Rattle.std.specs.Prelude.{OnOk, codes}
use Rattle.run_picture.specs.Layouts.{column_x, bottom_of}
use Rattle.run_picture.specs.Shapes.{shape_text, word_text, down_text}
use Rattle.run_picture.proofs.Joining.{appended_joined}
use Rattle.run_picture.proofs.axes.add_start.Goals as goal

pub returns : goal.returns
returns c =
    let l = c.args.layout.now in
    let x = c.column_x-x.ensures in
    let line = c.deref.ensures ∙ c.in_ok-line.ensures ∙ ap down_text c.bottom.ensures in
    let before = c.add.new.out.items in
    let shape = c.add_shape.new.out.items in
    subst (λ t. OnOk c.add-2.result (c.add-2.new.out.items ≡ t))
    (appended_joined c.args.out.now.items (codes "<g><title>before round 1</title>" ∷ shape_text (codes "start") (column_x l 0) 4
    (down_text (bottom_of l)) ∷ word_text (column_x l 0 + 4) 42 (codes "start") ∷ codes "</g>\n" ∷ [])
    (c.add_word.new.out.items ++ codes "</g>\n") (
      before,
      (
        c.in_ok-add.ensures,
        (
          shape,
          (
            c.in_ok-add_shape.ensures ∙ ap (λ n. before ++ shape_text (codes "start") n 4 c.deref.result.now) x
                ∙ ap (λ o. before ++ shape_text (codes "start") (column_x l 0) 4 o) line,
            (
              c.add_word.new.out.items,
              (
                c.in_ok-add_word.ensures ∙ ap (λ n. shape ++ word_text (n + 4) 42 (codes "start")) x,
                (c.add_word.new.out.items ++ codes "</g>\n", (refl, refl)),
              ),
            ),
          ),
        ),
      ),
    ))
    c.add-2.ensures
