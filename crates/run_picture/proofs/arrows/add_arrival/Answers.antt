use Rattle.std.proofs.Common.{◌≡◌, ◌∙◌, ◌++◌, [], ◌∷◌, ap, subst, refl}
use Rattle.std.specs.Prelude.{OnOk, codes}
use Rattle.run_picture.specs.Words.{statement_words, source_words, answer_words, place_words}
use Rattle.run_picture.specs.Arrows.{source_of, way_text}
use Rattle.run_picture.proofs.Joining.{appended_joined}
use Rattle.run_picture.proofs.arrows.add_arrival.Goals as goal

pub returns : goal.returns
returns c =
    let l = c.args.layout.now in
    let a = c.args.arrival.now in
    let d = a.delivery in
    let from = source_of c.args.sent.now a in
    let way = c.add_way.new.out.items in
    subst (λ t. OnOk c.add-3.result (c.add-3.new.out.items ≡ t))
    (appended_joined c.args.out.now.items
    (codes "<g><title>" ∷ statement_words d.statement ∷ source_words from ∷ answer_words d.answer ∷ place_words d.at.replica d.at.round
    d.at.entry
    ∷ codes "</title>" ∷ way_text l from d ∷ codes "</g>\n" ∷ [])
    (way ++ codes "</g>\n") (
      c.add.new.out.items,
      (
        c.in_ok-add.ensures,
        (
          c.add_statement.new.out.items,
          (
            c.in_ok-add_statement.ensures ∙ ap (λ o. c.add.new.out.items ++ statement_words o) c.as_ref.ensures.value,
            (
              c.add_source.new.out.items,
              (
                c.in_ok-add_source.ensures ∙ ap (λ o. c.add_statement.new.out.items ++ source_words o) c.source_of-source.ensures,
                (
                  c.add_answer.new.out.items,
                  (
                    c.in_ok-add_answer.ensures,
                    (
                      c.add_place.new.out.items,
                      (
                        c.in_ok-add_place.ensures,
                        (
                          c.add-2.new.out.items,
                          (
                            c.in_ok-add-2.ensures,
                            (
                              way,
                              (
                                c.in_ok-add_way.ensures ∙ ap (λ o. c.add-2.new.out.items ++ way_text l o d) c.source_of-source.ensures,
                                (way ++ codes "</g>\n", (refl, refl)),
                              ),
                            ),
                          ),
                        ),
                      ),
                    ),
                  ),
                ),
              ),
            ),
          ),
        ),
      ),
    ))
    c.add-3.ensures
