use Rattle.std.proofs.Common.{◌≡◌, ◌∙◌, ◌++◌, [], ◌∷◌, ap, subst, refl}
use Rattle.std.specs.Prelude.{OnOk, codes}
use Rattle.run_picture.specs.Xml.{value_xml, values_text}
use Rattle.run_picture.specs.Words.{head_words, proper_words}
use Rattle.run_picture.proofs.Joining.{appended_joined}
use Rattle.run_picture.proofs.words.add_report.Goals as goal

pub returns : goal.returns
returns c =
    let r = c.args.report.now in
    let locked = c.add-3.new.out.items in
    subst (λ t. OnOk c.add_values.result (c.add_values.new.out.items ≡ t))
    (appended_joined c.args.out.now.items
    (head_words (codes "report") r.height r.phase r.signer ∷ codes "; initial " ∷ value_xml r.initial ∷ codes "; proper"
    ∷ proper_words r.all r.proper ∷ codes "; locked" ∷ values_text r.locked ∷ [])
    (locked ++ values_text c.as_slice.result.now) (
      c.add_head.new.out.items,
      (
        c.in_ok-add_head.ensures,
        (
          c.add.new.out.items,
          (
            c.in_ok-add.ensures,
            (
              c.add_value.new.out.items,
              (
                c.in_ok-add_value.ensures,
                (
                  c.add-2.new.out.items,
                  (
                    c.in_ok-add-2.ensures,
                    (
                      c.add_proper.new.out.items,
                      (
                        c.in_ok-add_proper.ensures,
                        (
                          locked,
                          (
                            c.in_ok-add-3.ensures,
                            (locked ++ values_text c.as_slice.result.now, (ap (λ vs. locked ++ values_text vs) c.as_slice.ensures, refl)),
                          ),
                        ),
                      ),
                    ),
                  ),
                ),
              ),
            ),
          ),
        ),
      ),
    ))
    c.add_values.ensures
