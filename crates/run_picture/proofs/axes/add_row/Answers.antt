use Rattle.std.proofs.Common.{◌≡◌, ◌∙◌, ◌+◌, ◌++◌, [], ◌∷◌, ap, subst, refl}
use Rattle.std.specs.Prelude.{OnOk, codes}
use Rattle.run_picture.specs.Layouts.{row_y, width_of}
use Rattle.run_picture.specs.Shapes.{shape_text, name_text, band_text}
use Rattle.run_picture.specs.Axes.{row_class, row_words}
use Rattle.run_picture.proofs.Joining.{appended_joined}
use Rattle.run_picture.proofs.axes.add_row.Goals as goal

pub returns : goal.returns
returns c =
    let l = c.args.layout.now in
    let r = c.args.number in
    let y : c.row_y-y.result ≡ row_y r = c.row_y-y.ensures ∙ ap row_y c.new.ensures in
    let band = c.deref.ensures ∙ c.in_ok-band.ensures ∙ ap band_text c.width.ensures in
    let before = c.add-2.new.out.items in
    let shape = c.add_shape.new.out.items in
    subst (λ t. OnOk c.add-3.result (c.add-3.new.out.items ≡ t))
    (appended_joined c.args.out.now.items (codes "<g><title>" ∷ row_words r c.args.opened ∷ codes "</title>" ∷ shape_text
    (row_class c.args.opened) 0 (row_y r) (band_text (width_of l)) ∷ name_text 8 (row_y r + 16)
    (codes "replica") r ∷ codes "</g>\n" ∷ [])
    (c.add_name.new.out.items ++ codes "</g>\n") (
      c.add.new.out.items,
      (
        c.in_ok-add.ensures,
        (
          c.add_row_words.new.out.items,
          (
            c.in_ok-add_row_words.ensures,
            (
              before,
              (
                c.in_ok-add-2.ensures,
                (
                  shape,
                  (
                    c.in_ok-add_shape.ensures ∙ ap (λ k. before ++ shape_text k 0 c.row_y-y.result c.deref.result.now) c.row_class.ensures
                        ∙ ap (λ n. before ++ shape_text (row_class c.args.opened) 0 n c.deref.result.now) y
                        ∙ ap (λ o. before ++ shape_text (row_class c.args.opened) 0 (row_y r) o) band,
                    (
                      c.add_name.new.out.items,
                      (
                        c.in_ok-add_name.ensures ∙ ap (λ n. shape ++ name_text 8 (n + 16) (codes "replica") c.from.result) y
                            ∙ ap (λ n. shape ++ name_text 8 (row_y r + 16) (codes "replica") n) c.from.ensures,
                        (c.add_name.new.out.items ++ codes "</g>\n", (refl, refl)),
                      ),
                    ),
                  ),
                ),
              ),
            ),
          ),
        ),
      ),
    ))
    c.add-3.ensures
