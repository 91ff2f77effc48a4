-- The digits of bytes, at the two widths.
use Rattle.std.proofs.Common.{◌≡◌, ℕ, ◌+◌, ◌-◌, ◌*◌, ◌/◌, ◌%◌, ◌^◌, ◌<◌, ◌≤◌, List, ◌++◌, get_or, ap, ◌∙◌, arith}
use Rattle.std.proofs.lemmas.Nat.{and_mask}
use Rattle.std.specs.Prelude.{bit_and}
use Rattle.lm_ots.specs.declared.params.Width.{Width}
use Rattle.lm_ots.specs.declared.params.Width.TheVariants.{W4, W8}
use Rattle.lm_ots.specs.declared.params.Params.{Params}
use Rattle.lm_ots.specs.Parameters.{bits_of, chains_of, shift_of, numbers_of}
use Rattle.std.specs.Int.{w16, to_be_bytes}
use Rattle.ledger_model.specs.Signatures.{coef, checksum, digit, sum_up}

-- no width has more chains
pub chains-most : (w : Width) → chains_of w ≤ 67
chains-most W4 = omega arith
chains-most W8 = omega arith

-- a digit of 8 bits is a byte
pub coef-wide : (s : List ℕ) (i : ℕ) → get_or s i 0 < 256 → coef s i 8 ≡ get_or s i 0
unfolding coef
coef-wide s i small =
    let place : i * 8 / 8 ≡ i = omega arith in
    let shift : 8 - (8 * (i % 1) + 8) ≡ 0 = omega arith in
    rw (place, shift) (omega arith)

-- an even digit of 4 bits is the upper half of a byte
pub coef-upper : (s : List ℕ) (i : ℕ) → i % 2 ≡ 0 → get_or s (i / 2) 0 < 256 → coef s i 4 ≡ get_or s (i / 2) 0 / 16
unfolding coef
coef-upper s i even small =
    let place : i * 4 / 8 ≡ i / 2 = omega arith in
    let shift : 8 - (4 * (i % 2) + 4) ≡ 4 = omega arith in
    rw (place, shift) (omega arith)

-- an odd digit of 4 bits is the lower half of a byte
pub coef-lower : (s : List ℕ) (i : ℕ) → i % 2 ≡ 1 → coef s i 4 ≡ bit_and (get_or s (i / 2) 0) 15
unfolding coef
coef-lower s i odd =
    let place : i * 4 / 8 ≡ i / 2 = omega arith in
    let shift : 8 - (4 * (i % 2) + 4) ≡ 0 = omega arith in
    rw (place, shift) (omega (arith, and_mask (get_or s (i / 2) 0) 4))

-- a digit is below 2 to the width
pub coef-below : (s : List ℕ) (i w : ℕ) → 0 < 2 ^ w → coef s i w < 2 ^ w
unfolding coef
coef-below s i w positive = omega arith

-- a digit is at most the last step
pub coef-last : (w : Width) (s : List ℕ) (i : ℕ) → coef s i (bits_of w) ≤ 2 ^ bits_of w - 1
coef-last W4 s i = omega (arith, coef-below s i 4 (omega arith))
coef-last W8 s i = omega (arith, coef-below s i 8 (omega arith))

-- a shifted checksum has 16 bits
checksum-fits : (w : Width) (sum count : ℕ) → count ≡ 256 / bits_of w → sum ≤ (2 ^ bits_of w - 1) * count → sum * 2 ^ shift_of w < 65536
checksum-fits W4 sum count all bounded = omega arith
checksum-fits W8 sum count all bounded = omega arith

mod-small : (x : ℕ) → x < 65536 → x % 65536 ≡ x
mod-small x below = omega arith

-- the sum of what the digits lack, shifted, is the checksum
pub checksum-is : (p : Params) (s : List ℕ) (sum count shift : ℕ) → count ≡ 256 / bits_of p.width → shift ≡ shift_of p.width
    → sum ≤ (2 ^ bits_of p.width - 1) * count → sum ≡ sum_up (λ i. 2 ^ bits_of p.width - 1 - coef s i (bits_of p.width)) count
    → sum * 2 ^ shift % 65536 ≡ checksum (numbers_of p) s
unfolding checksum
checksum-is p s sum count shift all shifted bounded total =
    let fits = checksum-fits p.width sum count all bounded in
    let small : sum * 2 ^ shift % 65536 ≡ sum * 2 ^ shift = rw shifted (mod-small (sum * 2 ^ shift_of p.width) fits) in
    small ∙ ap (λ n. n * 2 ^ shift) (total ∙ ap (sum_up (λ i. 2 ^ bits_of p.width - 1 - coef s i (bits_of p.width))) all)
    ∙ ap (λ k. sum_up (λ i. 2 ^ bits_of p.width - 1 - coef s i (bits_of p.width)) (256 / bits_of p.width) * 2 ^ k) shifted

-- the sum of the digits in the bytes of a digest and its checksum
pub digits-sum : (p given : Params) (s bytes : List ℕ) (count : ℕ) → given ≡ p → bytes ≡ s ++ to_be_bytes w16 (checksum (numbers_of p) s)
    → sum_up (λ i. coef bytes i (bits_of given.width)) count ≡ sum_up (digit (numbers_of p) s) count
unfolding digit
digits-sum p given s bytes count same is =
    ap (λ (u : Params). sum_up (λ i. coef bytes i (bits_of u.width)) count) same
    ∙ ap (λ b. sum_up (λ i. coef b i (bits_of p.width)) count) is
