use Rattle.std.proofs.Common.{◌≡◌, ◌∙◌, ◌+◌, ◌++◌, [], ◌∷◌, ap, subst, refl}
use Rattle.std.specs.Prelude.{OnOk, codes}
use Rattle.run_picture.specs.Shapes.{name_text}
use Rattle.run_picture.proofs.Joining.{appended_joined}
use Rattle.run_picture.proofs.document.add_part_names.Goals as goal

pub returns : goal.returns
returns c =
    subst (λ t. OnOk c.add_name-3.result (c.add_name-3.new.out.items ≡ t))
    (appended_joined c.args.out.now.items (name_text 8 14 (codes "rounds") c.args.first ∷ name_text 8 28
    (codes "to") c.args.last ∷ name_text 8 42 (codes "of") c.args.opened ∷ [])
    (c.add_name-2.new.out.items ++ name_text 8 42 (codes "of") c.args.opened) (
      c.add_name.new.out.items,
      (
        c.in_ok-add_name.ensures ∙ ap (λ n. c.args.out.now.items ++ name_text 8 14 (codes "rounds") n) c.from.ensures,
        (
          c.add_name-2.new.out.items,
          (
            c.in_ok-add_name-2.ensures ∙ ap (λ n. c.add_name.new.out.items ++ name_text 8 28 (codes "to") n) c.from-2.ensures,
            (c.add_name-2.new.out.items ++ name_text 8 42 (codes "of") c.args.opened, (refl, refl)),
          ),
        ),
      ),
    ))
    c.add_name-3.ensures
