use Rattle.std.proofs.Common.{◌≡◌, ◌∙◌, ◌+◌, ◌++◌, [], ◌∷◌, ap, subst, refl}
use Rattle.std.specs.Prelude.{OnOk, codes}
use Rattle.run_picture.specs.Documents.{shift_text}
use Rattle.run_picture.proofs.Joining.{appended_joined}
use Rattle.run_picture.proofs.document.add_foot.Goals as goal

pub returns : goal.returns
returns c =
    subst (λ t. OnOk c.add-2.result (c.add-2.new.out.items ≡ t))
    (appended_joined c.args.out.now.items (shift_text c.args.bottom ∷ c.args.legend.now ∷ codes "</g>\n</svg>\n" ∷ [])
    (c.add.new.out.items ++ codes "</g>\n</svg>\n") (
      c.add_shift.new.out.items,
      (
        c.in_ok-add_shift.ensures,
        (
          c.add.new.out.items,
          (
            c.in_ok-add.ensures,
            (c.add.new.out.items ++ codes "</g>\n</svg>\n", (refl, refl)),
          ),
        ),
      ),
    ))
    c.add-2.ensures
