-- Parts of one length in a row, which show where each begins: lemmas for encodings of states.
use Rattle.std.proofs.Common.{◌≡◌, ◌∙◌, ℕ, ◌≤◌, List, [], ◌∷◌, ◌++◌, ap, arith, drop, length, length-append, refl, sym, take}
use Rattle.std.proofs.Math.Seq.{drop-append_seam, take-append_seam}
use Rattle.std.specs.Array.{AllZipBelow}
use Rattle.std.specs.List.{AllByRecursion, AllZip, each_same, flat_map}

-- equal lists that begin with parts of one length have equal parts
pub same_parts : (xs ys us vs : List ℕ) → length xs ≡ length ys → xs ++ us ≡ ys ++ vs → (xs ≡ ys) × (us ≡ vs)
same_parts xs ys us vs long same = (
  sym (take-append_seam xs us) ∙ ap (λ n. take n (xs ++ us)) long ∙ ap (take (length ys)) same ∙ take-append_seam ys vs,
  sym (drop-append_seam xs us) ∙ ap (λ n. drop n (xs ++ us)) long ∙ ap (drop (length ys)) same ∙ drop-append_seam ys vs,
)

-- each block has this length
abbrev pub AreBlocks : ℕ → List (List ℕ) → Type 0
AreBlocks n blocks = AllByRecursion (λ block. length block ≡ n) blocks

pub blocks-push : (n : ℕ) (blocks : List (List ℕ)) (block : List ℕ) → AreBlocks n blocks → length block ≡ n → AreBlocks n (blocks ++ block ∷ [])
blocks-push n [] block all long = (long, tt)
blocks-push n (b ∷ bs) block all long = (all.0, blocks-push n bs block all.1 long)

-- blocks in a row are read back in one way
pub same_blocks : (n : ℕ) → 1 ≤ n → (xs ys : List (List ℕ)) → AreBlocks n xs → AreBlocks n ys → flat_map (λ b. b) xs ≡ flat_map (λ b. b) ys
    → xs ≡ ys
same_blocks n some [] [] long long2 same = refl
same_blocks n some [] (y ∷ ys) long long2 same =
    absurd (omega (arith, some, ap length same, length-append y (flat_map (λ b. b) ys), long2.0))
same_blocks n some (x ∷ xs) [] long long2 same =
    absurd (omega (arith, some, ap length same, length-append x (flat_map (λ b. b) xs), long.0))
same_blocks n some (x ∷ xs) (y ∷ ys) long long2 same =
    let parts = same_parts x y _ _ (long.0 ∙ sym long2.0) same in
    ap (λ b. b ∷ xs) parts.0 ∙ ap (λ bs. y ∷ bs) (same_blocks n some xs ys long.1 long2.1 parts.1)

-- a clone of a vector of arrays has the same elements
pub arrays_cloned : (n : ℕ) (xs ys : List (List ℕ)) → AllZip (λ x y. AllZipBelow (λ a b. b ≡ a) x y n) xs ys → ys ≡ xs
arrays_cloned n [] [] same = refl
arrays_cloned n [] (y ∷ ys) same = absurd same
arrays_cloned n (x ∷ xs) [] same = absurd same
arrays_cloned n (x ∷ xs) (y ∷ ys) same = ap (λ b. b ∷ ys) (each_same x y same.0.whole) ∙ ap (λ bs. x ∷ bs) (arrays_cloned n xs ys same.1)
