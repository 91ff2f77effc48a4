use Rattle.std.proofs.Common.{◌≡◌, ◌∙◌, ◌+◌, ◌++◌, [], ◌∷◌, ap, subst, refl}
use Rattle.std.specs.Prelude.{OnOk, codes}
use Rattle.run_picture.specs.Shapes.{shape_text, label_text}
use Rattle.run_picture.specs.Words.{place_words}
use Rattle.run_picture.specs.Marks.{fact_words, fact_class, fact_outline}
use Rattle.run_picture.proofs.Joining.{appended_joined}
use Rattle.run_picture.proofs.marks.add_mark_at.Goals as goal

pub returns : goal.returns
returns c =
    let m = c.args.mark.now in
    let x = c.args.x in
    let y = c.args.y in
    let h = c.args.height in
    let before = c.add-2.new.out.items in
    subst (λ t. OnOk c.add-3.result (c.add-3.new.out.items ≡ t))
    (appended_joined c.args.out.now.items (codes "<g><title>" ∷ fact_words m.fact h ∷ place_words m.at.replica m.at.round m.at.entry ∷
    codes "</title>" ∷ shape_text (fact_class m.fact) x y (fact_outline m.fact) ∷ label_text x y h ∷ codes "</g>\n" ∷ [])
    (c.add_label.new.out.items ++ codes "</g>\n") (
      c.add.new.out.items,
      (
        c.in_ok-add.ensures,
        (
          c.add_fact.new.out.items,
          (
            c.in_ok-add_fact.ensures,
            (
              c.add_place.new.out.items,
              (
                c.in_ok-add_place.ensures,
                (
                  before,
                  (
                    c.in_ok-add-2.ensures,
                    (
                      c.add_shape.new.out.items,
                      (
                        c.in_ok-add_shape.ensures ∙ ap (λ k. before ++ shape_text k x y c.fact_outline.result.now) c.fact_class.ensures
                            ∙ ap (λ o. before ++ shape_text (fact_class m.fact) x y o) c.fact_outline.ensures,
                        (
                          c.add_label.new.out.items,
                          (
                            c.in_ok-add_label.ensures,
                            (c.add_label.new.out.items ++ codes "</g>\n", (refl, refl)),
                          ),
                        ),
                      ),
                    ),
                  ),
                ),
              ),
            ),
          ),
        ),
      ),
    ))
    c.add-3.ensures
