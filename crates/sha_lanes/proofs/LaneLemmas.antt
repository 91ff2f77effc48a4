-- The words of one lane of a ring of 16 vectors.
use Rattle.std.proofs.Common.{◌≡◌, ℕ, zero, suc, ◌<◌, ◌+◌, ◌*◌, ◌/◌, ◌%◌, List, [], ◌∷◌, length, slice_index, slice_set, arith, refl, subst}
use Rattle.sha_lanes.specs.Lanes.{lane, lane_at, words}

below_four : (P : ℕ → Type 0) → P 0 → P 1 → P 2 → P 3 → (j : ℕ) → j < 4 → P j
below_four P p0 p1 p2 p3 zero h = p0
below_four P p0 p1 p2 p3 (suc zero) h = p1
below_four P p0 p1 p2 p3 (suc (suc zero)) h = p2
below_four P p0 p1 p2 p3 (suc (suc (suc zero))) h = p3
below_four P p0 p1 p2 p3 (suc (suc (suc (suc n)))) h = absurd (omega arith)

-- what holds of each of the eight lanes
pub below_eight : (P : ℕ → Type 0) → P 0 → P 1 → P 2 → P 3 → P 4 → P 5 → P 6 → P 7 → (j : ℕ) → j < 8 → P j
below_eight P a b c d e f g h zero low = a
below_eight P a b c d e f g h (suc zero) low = b
below_eight P a b c d e f g h (suc (suc zero)) low = c
below_eight P a b c d e f g h (suc (suc (suc zero))) low = d
below_eight P a b c d e f g h (suc (suc (suc (suc zero)))) low = e
below_eight P a b c d e f g h (suc (suc (suc (suc (suc zero))))) low = f
below_eight P a b c d e f g h (suc (suc (suc (suc (suc (suc zero)))))) low = g
below_eight P a b c d e f g h (suc (suc (suc (suc (suc (suc (suc zero))))))) low = h
below_eight P a b c d e f g h (suc (suc (suc (suc (suc (suc (suc (suc n)))))))) low = absurd (omega arith)

-- what holds of each of the sixteen words
pub below_sixteen : (P : ℕ → Type 0) → P 0 → P 1 → P 2 → P 3 → P 4 → P 5 → P 6 → P 7
    → P 8 → P 9 → P 10 → P 11 → P 12 → P 13 → P 14 → P 15 → (k : ℕ) → k < 16 → P k
below_sixteen P a0 a1 a2 a3 b0 b1 b2 b3 c0 c1 c2 c3 d0 d1 d2 d3 k h =
    let place : 4 * (k / 4) + k % 4 ≡ k = omega arith in
    subst P place (below_four (λ row. (col : ℕ) → col < 4 → P (4 * row + col))
    (below_four _ a0 a1 a2 a3) (below_four _ b0 b1 b2 b3) (below_four _ c0 c1 c2 c3) (below_four _ d0 d1 d2 d3)
    (k / 4) (omega arith) (k % 4) (omega arith))

pub value_of : (x : List (List ℕ)) (j k : ℕ) → k < 8 → slice_index (lane j x) k ≡ lane_at x k j
value_of x j = below_eight _ refl refl refl refl refl refl refl refl

pub word_of : (x : List (List ℕ)) (j k : ℕ) → k < 16 → slice_index (words j x) k ≡ lane_at x k j
word_of x j =
    below_sixteen _ refl refl refl refl refl refl refl refl refl refl refl refl refl refl refl refl

-- what holds of each list of sixteen vectors
abbrev Sixteen : List (List ℕ) → Type 0
Sixteen x = (j p : ℕ) (v : List ℕ) → p < 16 → words j (slice_set x p v) ≡ slice_set (words j x) p (slice_index v j)

pub words-set : (x : List (List ℕ)) → length x ≡ 16 → Sixteen x
words-set (a ∷ b ∷ c ∷ d ∷ e ∷ f ∷ g ∷ h ∷ i ∷ k ∷ l ∷ m ∷ n ∷ o ∷ q ∷ r ∷ []) eq = λ j p v lt.
    below_sixteen (λ p. words j (slice_set (a ∷ b ∷ c ∷ d ∷ e ∷ f ∷ g ∷ h ∷ i ∷ k ∷ l ∷ m ∷ n ∷ o ∷ q ∷ r ∷ []) p v)
    ≡ slice_set (words j (a ∷ b ∷ c ∷ d ∷ e ∷ f ∷ g ∷ h ∷ i ∷ k ∷ l ∷ m ∷ n ∷ o ∷ q ∷ r ∷ [])) p (slice_index v j))
    refl refl refl refl refl refl refl refl refl refl refl refl refl refl refl refl p lt
words-set [] eq = absurd (omega arith)
words-set (a ∷ []) eq = absurd (omega arith)
words-set (a ∷ b ∷ []) eq = absurd (omega arith)
words-set (a ∷ b ∷ c ∷ []) eq = absurd (omega arith)
words-set (a ∷ b ∷ c ∷ d ∷ []) eq = absurd (omega arith)
words-set (a ∷ b ∷ c ∷ d ∷ e ∷ []) eq = absurd (omega arith)
words-set (a ∷ b ∷ c ∷ d ∷ e ∷ f ∷ []) eq = absurd (omega arith)
words-set (a ∷ b ∷ c ∷ d ∷ e ∷ f ∷ g ∷ []) eq = absurd (omega arith)
words-set (a ∷ b ∷ c ∷ d ∷ e ∷ f ∷ g ∷ h ∷ []) eq = absurd (omega arith)
words-set (a ∷ b ∷ c ∷ d ∷ e ∷ f ∷ g ∷ h ∷ i ∷ []) eq = absurd (omega arith)
words-set (a ∷ b ∷ c ∷ d ∷ e ∷ f ∷ g ∷ h ∷ i ∷ k ∷ []) eq = absurd (omega arith)
words-set (a ∷ b ∷ c ∷ d ∷ e ∷ f ∷ g ∷ h ∷ i ∷ k ∷ l ∷ []) eq = absurd (omega arith)
words-set (a ∷ b ∷ c ∷ d ∷ e ∷ f ∷ g ∷ h ∷ i ∷ k ∷ l ∷ m ∷ []) eq = absurd (omega arith)
words-set (a ∷ b ∷ c ∷ d ∷ e ∷ f ∷ g ∷ h ∷ i ∷ k ∷ l ∷ m ∷ n ∷ []) eq = absurd (omega arith)
words-set (a ∷ b ∷ c ∷ d ∷ e ∷ f ∷ g ∷ h ∷ i ∷ k ∷ l ∷ m ∷ n ∷ o ∷ []) eq = absurd (omega arith)
words-set (a ∷ b ∷ c ∷ d ∷ e ∷ f ∷ g ∷ h ∷ i ∷ k ∷ l ∷ m ∷ n ∷ o ∷ q ∷ []) eq = absurd (omega arith)
words-set (a ∷ b ∷ c ∷ d ∷ e ∷ f ∷ g ∷ h ∷ i ∷ k ∷ l ∷ m ∷ n ∷ o ∷ q ∷ r ∷ s ∷ xs) eq = absurd (omega arith)
