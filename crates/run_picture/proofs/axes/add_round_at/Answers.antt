use Rattle.std.proofs.Common.{◌≡◌, ◌∙◌, ◌++◌, [], ◌∷◌, ap, subst, refl}
use Rattle.std.specs.Prelude.{OnOk, codes}
use Rattle.run_picture.specs.Layouts.{column_x}
use Rattle.run_picture.specs.Axes.{round_words, grid_text, names_text}
use Rattle.run_picture.proofs.Joining.{appended_joined}
use Rattle.run_picture.proofs.axes.add_round_at.Goals as goal

pub returns : goal.returns
returns c =
    let l = c.args.layout.now in
    let r = c.args.round in
    let place = c.args.place.now in
    let k = c.args.phase in
    let owner = c.args.owner in
    let x = c.column_x-x.ensures in
    let before = c.add-2.new.out.items in
    let grid = c.add_grid.new.out.items in
    let names = c.add_names.new.out.items in
    subst (λ t. OnOk c.add-3.result (c.add-3.new.out.items ≡ t))
    (appended_joined c.args.out.now.items
    (codes "<g><title>" ∷ round_words r place k owner ∷ codes "</title>" ∷ grid_text l (column_x l r) place owner
    ∷ names_text (column_x l r) r place k owner ∷ codes "</g>\n" ∷ [])
    (names ++ codes "</g>\n") (
      c.add.new.out.items,
      (
        c.in_ok-add.ensures,
        (
          c.add_round_words.new.out.items,
          (
            c.in_ok-add_round_words.ensures,
            (
              before,
              (
                c.in_ok-add-2.ensures,
                (
                  grid,
                  (
                    c.in_ok-add_grid.ensures ∙ ap (λ n. before ++ grid_text l n place owner) x,
                    (
                      names,
                      (
                        c.in_ok-add_names.ensures ∙ ap (λ n. grid ++ names_text n r place k owner) x,
                        (names ++ codes "</g>\n", (refl, refl)),
                      ),
                    ),
                  ),
                ),
              ),
            ),
          ),
        ),
      ),
    ))
    c.add-3.ensures
