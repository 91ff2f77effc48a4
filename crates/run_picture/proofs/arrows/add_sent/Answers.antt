use Rattle.std.proofs.Common.{◌≡◌, ◌∙◌, ◌++◌, [], ◌∷◌, ap, subst, refl}
use Rattle.std.specs.Prelude.{OnOk, codes}
use Rattle.run_picture.specs.Layouts.{start_x, statement_y}
use Rattle.run_picture.specs.Shapes.{shape_text}
use Rattle.run_picture.specs.Words.{statement_words, addressee_words, place_words}
use Rattle.run_picture.proofs.Joining.{appended_joined}
use Rattle.run_picture.proofs.arrows.add_sent.Goals as goal

pub returns : goal.returns
returns c =
    let l = c.args.layout.now in
    let s = c.args.sent.now in
    let dot = codes "m-2 0a2 2 0 1 0 4 0a2 2 0 1 0 -4 0" in
    let before = c.add-3.new.out.items in
    let shape = c.add_shape.new.out.items in
    subst (λ t. OnOk c.add-4.result (c.add-4.new.out.items ≡ t))
    (appended_joined c.args.out.now.items
    (codes "<g><title>" ∷ statement_words s.statement ∷ codes "; sent" ∷ addressee_words s.addressee ∷ place_words s.at.replica s.at.round
    s.at.entry
    ∷ codes "</title>" ∷ shape_text (codes "dot") (start_x l s) (statement_y s.at.replica s.statement) dot ∷ codes "</g>\n" ∷ [])
    (shape ++ codes "</g>\n") (
      c.add.new.out.items,
      (
        c.in_ok-add.ensures,
        (
          c.add_statement.new.out.items,
          (
            c.in_ok-add_statement.ensures
                ∙ ap (λ o. c.add.new.out.items ++ statement_words o) c.as_ref-statement.ensures.value,
            (
              c.add-2.new.out.items,
              (
                c.in_ok-add-2.ensures,
                (
                  c.add_addressee.new.out.items,
                  (
                    c.in_ok-add_addressee.ensures,
                    (
                      c.add_place.new.out.items,
                      (
                        c.in_ok-add_place.ensures,
                        (
                          before,
                          (
                            c.in_ok-add-3.ensures,
                            (
                              shape,
                              (
                                c.in_ok-add_shape.ensures
                                    ∙ ap (λ x. before ++ shape_text (codes "dot") x c.statement_y-y.result dot) c.start_x-x.ensures
                                    ∙ ap (λ y. before ++ shape_text (codes "dot") (start_x l s) y dot) (c.statement_y-y.ensures
                                    ∙ ap (λ o. statement_y s.at.replica o) c.as_ref-statement.ensures.value),
                                (shape ++ codes "</g>\n", (refl, refl)),
                              ),
                            ),
                          ),
                        ),
                      ),
                    ),
                  ),
                ),
              ),
            ),
          ),
        ),
      ),
    ))
    c.add-4.ensures
