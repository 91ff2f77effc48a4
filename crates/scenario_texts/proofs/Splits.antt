-- Pieces are split where they were joined.
use Rattle.std.proofs.Common.{◌≡◌, ◌∙◌, ℕ, false, List, [], ◌∷◌, refl, ap, eq-eqb}
use Rattle.std.specs.Prelude.{◌==◌}
use Rattle.std.specs.List.{slice_split, join_with_byte, All, AllByRecursion}
use Rattle.std.proofs.lemmas.List.Splits.{slice_split_none, slice_split_at}

-- this byte doesn't stand in the piece
abbrev pub Lacks : ℕ → List ℕ → Type 0
Lacks c piece = All (λ b. (b == c) ≡ false) piece

-- pieces without the byte that joins them
pub slice_split-join : (c : ℕ) (piece : List ℕ) (more : List (List ℕ)) → Lacks c piece → AllByRecursion (Lacks c) more
    → slice_split (λ b. b == c) (join_with_byte c (piece ∷ more)) ≡ piece ∷ more
slice_split-join c piece [] lacks all = slice_split_none (λ b. b == c) piece lacks
slice_split-join c piece (next ∷ more) lacks (first, all) =
    slice_split_at (λ b. b == c) piece c (join_with_byte c (next ∷ more)) lacks (eq-eqb c c refl)
    ∙ ap (λ ps. piece ∷ ps) (slice_split-join c next more first all)
