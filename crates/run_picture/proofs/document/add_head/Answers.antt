use Rattle.std.proofs.Common.{◌≡◌, ◌∙◌, ◌+◌, ◌++◌, [], ◌∷◌, ap, subst, refl}
use Rattle.std.specs.Prelude.{OnOk, codes}
use Rattle.run_picture.specs.Layouts.{width_of, picture_height}
use Rattle.run_picture.specs.Documents.{open_text, corner_text}
use Rattle.run_picture.proofs.Joining.{appended_joined}
use Rattle.run_picture.proofs.document.add_head.Goals as goal

pub returns : goal.returns
returns c =
    let l = c.args.layout.now in
    subst (λ t. OnOk c.add_corner.result (c.add_corner.new.out.items ≡ t))
    (appended_joined c.args.out.now.items (open_text (width_of l) (picture_height l) ∷ c.args.style.now ∷ corner_text l c.args.height ∷ [])
    (c.add.new.out.items ++ corner_text l c.args.height) (
      c.add_open.new.out.items,
      (
        c.in_ok-add_open.ensures ∙ ap (λ w. c.args.out.now.items ++ open_text w c.height.result) c.width.ensures
            ∙ ap (λ h. c.args.out.now.items ++ open_text (width_of l) h) c.height.ensures,
        (
          c.add.new.out.items,
          (
            c.in_ok-add.ensures,
            (c.add.new.out.items ++ corner_text l c.args.height, (refl, refl)),
          ),
        ),
      ),
    ))
    c.add_corner.ensures
