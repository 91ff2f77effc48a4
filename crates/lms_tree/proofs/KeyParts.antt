-- Parts of a public key, written one after another.
use Rattle.std.proofs.Common.{◌≡◌, ℕ, ◌+◌, List, [], ◌++◌, length, drop, sym, ap, ◌∙◌, arith}
use Rattle.std.proofs.lemmas.List.{take_at, drop_at, append_assoc, append-nil, length-append}
use borrow.Rule.Slice.PartMut.{put_mid}

-- a part written after those before it
put_mid-next : {X : Type 0} (a k : ℕ) (xs pad ys : List X) → length xs ≡ a → put_mid a k (xs ++ pad) ys ≡ xs ++ ys ++ drop k pad
put_mid-next a k xs pad ys at =
    ap (λ zs. zs ++ (ys ++ drop k (drop a (xs ++ pad)))) (take_at xs pad a at)
    ∙ ap (λ zs. xs ++ (ys ++ drop k zs)) (drop_at xs pad a at)
    ∙ sym (append_assoc xs ys (drop k pad))

-- four parts written one after another
pub four_parts : {X : Type 0} (a b k l m n o : ℕ) (ws xs ys zs pad ws' xs' ys' zs' : List X)
    → length ws ≡ k → length xs ≡ l → length ys ≡ m → a ≡ k + l → b ≡ a + m
    → drop o (drop m (drop l pad)) ≡ [] → ws ≡ ws' → xs ≡ xs' → ys ≡ ys' → zs ≡ zs'
    → put_mid b o (put_mid a m (put_mid k l (ws ++ pad) xs) ys) zs ≡ ws' ++ xs' ++ ys' ++ zs'
four_parts a b k l m n o ws xs ys zs pad ws' xs' ys' zs' long_w long_x long_y at_a at_b past e f g h =
    let two = put_mid-next k l ws pad xs long_w in
    let three = put_mid-next a m (ws ++ xs) (drop l pad) ys (omega (arith, length-append ws xs)) in
    let four = put_mid-next b o (ws ++ xs ++ ys) (drop m (drop l pad)) zs (omega (arith, length-append ws xs, length-append (ws ++ xs) ys))
    in
    ap (λ vs. put_mid b o (put_mid a m vs ys) zs) two ∙ ap (λ vs. put_mid b o vs zs) three ∙ four
    ∙ ap (λ vs. ws ++ xs ++ ys ++ zs ++ vs) past ∙ append-nil (ws ++ xs ++ ys ++ zs)
    ∙ ap (λ vs. vs ++ xs ++ ys ++ zs) e ∙ ap (λ vs. ws' ++ vs ++ ys ++ zs) f ∙ ap (λ vs. ws' ++ xs' ++ vs ++ zs) g
    ∙ ap (λ vs. ws' ++ xs' ++ ys' ++ vs) h
