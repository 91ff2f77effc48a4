use Rattle.std.proofs.Common.{◌≡◌, ◌∙◌, ◌+◌, ◌++◌, [], ◌∷◌, ap, subst, refl}
use Rattle.std.specs.Prelude.{OnOk, codes}
use Rattle.run_picture.specs.Axes.{axis_rows_from, columns_from}
use Rattle.run_picture.specs.Marks.{marks_from}
use Rattle.run_picture.specs.Documents.{frames_text}
use Rattle.std.specs.Prelude.{None, ◌-◌}
use Rattle.run_picture.proofs.Joining.{appended_joined}
use Rattle.run_picture.proofs.document.add_elements.Goals as goal

pub returns : goal.returns
returns c =
    let l = c.args.layout.now in
    let p = c.args.picture.now in
    let facts = c.add_marks.new.out.items in
    let locks = c.add_marks-2.new.out.items in
    let decisions = c.add_marks-3.new.out.items in
    subst (λ t. OnOk c.add_marks-4.result (c.add_marks-4.new.out.items ≡ t))
    (appended_joined c.args.out.now.items (axis_rows_from l p.rounds.items 0 l.config.replicas ∷ columns_from l l.first
    (l.last + 1 - l.first) ∷ frames_text l p ∷ marks_from l None 0 p.facts.items ∷ marks_from l None 0 p.locks.items ∷ marks_from l
    None 0 p.decisions.items ∷ marks_from l None 0 p.retired.items ∷ [])
    (decisions ++ marks_from l None 0 c.deref-5.result.now) (
      c.add_rows.new.out.items,
      (
        c.in_ok-add_rows.ensures ∙ ap (λ o. c.args.out.now.items ++ axis_rows_from l o 0 l.config.replicas) c.deref.ensures.value,
        (
          c.add_columns.new.out.items,
          (
            c.in_ok-add_columns.ensures,
            (
              c.add_frames.new.out.items,
              (
                c.in_ok-add_frames.ensures,
                (
                  facts,
                  (
                    c.in_ok-add_marks.ensures ∙ ap (λ ms. c.add_frames.new.out.items ++ marks_from l None 0 ms) c.deref-2.ensures.value,
                    (
                      locks,
                      (
                        c.in_ok-add_marks-2.ensures ∙ ap (λ ms. facts ++ marks_from l None 0 ms) c.deref-3.ensures.value,
                        (
                          decisions,
                          (
                            c.in_ok-add_marks-3.ensures ∙ ap (λ ms. locks ++ marks_from l None 0 ms) c.deref-4.ensures.value,
                            (
                              decisions ++ marks_from l None 0 c.deref-5.result.now,
                              (ap (λ ms. decisions ++ marks_from l None 0 ms) c.deref-5.ensures.value, refl),
                            ),
                          ),
                        ),
                      ),
                    ),
                  ),
                ),
              ),
            ),
          ),
        ),
      ),
    ))
    c.add_marks-4.ensures
