use Rattle.std.proofs.Common.{◌≡◌, ◌∙◌, ◌+◌, ◌++◌, [], ◌∷◌, ap, subst, refl}
use Rattle.std.specs.Prelude.{OnOk, codes}
use Rattle.run_picture.specs.Layouts.{row_y, bottom_of}
use Rattle.run_picture.specs.Shapes.{shape_text, down_text}
use Rattle.run_picture.proofs.Joining.{appended_joined}
use Rattle.run_picture.proofs.axes.add_grid.Goals as goal

pub returns : goal.returns
returns c =
    let l = c.args.layout.now in
    let x = c.args.x in
    let line = c.deref.ensures ∙ c.in_ok-line.ensures ∙ ap down_text c.bottom.ensures in
    subst (λ t. OnOk c.add_shape-2.result (c.add_shape-2.new.out.items ≡ t))
    (appended_joined c.args.out.now.items (shape_text (codes "owner") x (row_y c.args.owner)
    (codes "h84v112h-84z") ∷ shape_text c.args.place.now x 4 (down_text (bottom_of l)) ∷ [])
    (c.add_shape.new.out.items ++ shape_text c.args.place.now x 4 c.deref.result.now) (
      c.add_shape.new.out.items,
      (
        c.in_ok-add_shape.ensures ∙ ap (λ y. c.args.out.now.items ++ shape_text (codes "owner") x y (codes "h84v112h-84z"))
            (c.row_y-y.ensures ∙ ap row_y c.new.ensures),
        (
          c.add_shape.new.out.items ++ shape_text c.args.place.now x 4 c.deref.result.now,
          (ap (λ o. c.add_shape.new.out.items ++ shape_text c.args.place.now x 4 o) line, refl),
        ),
      ),
    ))
    c.add_shape-2.ensures
