use Rattle.std.proofs.Common.{◌≡◌, ◌∙◌, ◌+◌, ◌++◌, [], ◌∷◌, ap, subst, refl}
use Rattle.std.specs.Prelude.{OnOk, codes}
use Rattle.run_picture.specs.Documents.{part_words, version_words, part_names, height_text}
use Rattle.run_picture.proofs.Joining.{appended_joined}
use Rattle.run_picture.proofs.document.add_corner.Goals as goal

pub returns : goal.returns
returns c =
    let l = c.args.layout.now in
    subst (λ t. OnOk c.add-4.result (c.add-4.new.out.items ≡ t))
    (appended_joined c.args.out.now.items (codes "<g><title>" ∷ part_words l.first l.last l.opened ∷ version_words l.config.frames
    ∷ codes "</title>" ∷ part_names l.first l.last l.opened ∷ height_text c.args.height ∷ codes "</g>\n" ∷ [])
    (c.add_height.new.out.items ++ codes "</g>\n") (
      c.add.new.out.items,
      (
        c.in_ok-add.ensures,
        (
          c.add_part_words.new.out.items,
          (
            c.in_ok-add_part_words.ensures,
            (
              c.add-2.new.out.items,
              (
                c.in_ok-add-2.ensures ∙ ap (λ t. c.add_part_words.new.out.items ++ t) c.version_words.ensures,
                (
                  c.add-3.new.out.items,
                  (
                    c.in_ok-add-3.ensures,
                    (
                      c.add_part_names.new.out.items,
                      (
                        c.in_ok-add_part_names.ensures,
                        (
                          c.add_height.new.out.items,
                          (
                            c.in_ok-add_height.ensures,
                            (c.add_height.new.out.items ++ codes "</g>\n", (refl, refl)),
                          ),
                        ),
                      ),
                    ),
                  ),
                ),
              ),
            ),
          ),
        ),
      ),
    ))
    c.add-4.ensures
