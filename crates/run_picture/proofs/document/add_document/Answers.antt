use Rattle.std.proofs.Common.{◌≡◌, ◌∙◌, ◌+◌, ◌++◌, [], ◌∷◌, ap, subst, refl}
use Rattle.std.specs.Prelude.{OnOk, codes}
use Rattle.run_picture.specs.Layouts.{layout_of, bottom_of}
use Rattle.run_picture.specs.Documents.{document_head, elements_text, foot_text}
use Rattle.run_picture.proofs.Joining.{appended_joined}
use Rattle.run_picture.proofs.document.add_document.Goals as goal

pub returns : goal.returns
returns c =
    let p = c.args.picture.now in
    let l : c.of-layout.result ≡ layout_of p = c.of-layout.ensures in
    let elements = c.add_elements.new.out.items in
    subst (λ t. OnOk c.add_foot.result (c.add_foot.new.out.items ≡ t))
    (appended_joined c.args.out.now.items (document_head c.args.style.now (layout_of p) p.part.height ∷ elements_text
    (layout_of p) p ∷ foot_text c.args.legend.now (bottom_of (layout_of p)) ∷ [])
    (elements ++ foot_text c.args.legend.now c.bottom.result) (
      c.add_head.new.out.items,
      (
        c.in_ok-add_head.ensures ∙ ap (λ x. c.args.out.now.items ++ document_head c.args.style.now x p.part.height) l,
        (
          elements,
          (
            c.in_ok-add_elements.ensures ∙ ap (λ x. c.add_head.new.out.items ++ elements_text x p) l,
            (
              elements ++ foot_text c.args.legend.now c.bottom.result,
              (ap (λ n. elements ++ foot_text c.args.legend.now n) (c.bottom.ensures ∙ ap bottom_of l), refl),
            ),
          ),
        ),
      ),
    ))
    c.add_foot.ensures
