-- Strings of 32 bytes, one after another.
use Rattle.std.proofs.Common.{◌≡◌, ℕ, zero, suc, ◌+◌, ◌-◌, ◌*◌, ◌<◌, List, [], ◌∷◌, ◌++◌, length, take, drop, map, get_or, refl, sym, ap}
use Rattle.std.proofs.Common.{◌∙◌, arith}
use Rattle.std.proofs.lemmas.List.{take_at, drop_at, drop-drop, get_or-take}
use Rattle.std.specs.Int.{w32, from_be_bytes}
use Rattle.std.specs.List.{flat_map, range_with_len}
use Rattle.ledger_model.specs.Signatures.{part}

-- the string number i of those that a function of the index gives
pub take-drop-flat_map : (g : ℕ → List ℕ) → ((i : ℕ) → length (g i) ≡ 32) → (n i a : ℕ) → i < n
    → take 32 (drop (32 * i) (flat_map g (range_with_len a n))) ≡ g (a + i)
take-drop-flat_map g long zero i a inside = absurd (omega arith)
take-drop-flat_map g long (suc n) zero a inside =
    let z : a + 0 ≡ a = omega arith in
    rw z (take_at (g a) (flat_map g (range_with_len (a + 1) n)) 32 (long a))
take-drop-flat_map g long (suc n) (suc i) a inside =
    let rest = flat_map g (range_with_len (a + 1) n) in
    let apart : 32 * suc i ≡ 32 + 32 * i = omega arith in
    let on : a + 1 + i ≡ a + suc i = omega arith in
    ap (λ k. take 32 (drop k (g a ++ rest))) apart
    ∙ ap (take 32) (sym (drop-drop (32 * i) 32 (g a ++ rest)))
    ∙ ap (λ zs. take 32 (drop (32 * i) zs)) (drop_at (g a) rest 32 (long a))
    ∙ take-drop-flat_map g long n i (a + 1) (omega arith)
    ∙ ap g on

-- the same after other bytes
pub part-after : (front : List ℕ) (g : ℕ → List ℕ) → ((i : ℕ) → length (g i) ≡ 32) → (n i from : ℕ) → length front ≡ from → i < n
    → part (front ++ flat_map g (range_with_len 0 n)) from i ≡ g i
part-after front g long n i from at inside =
    let rest = flat_map g (range_with_len 0 n) in
    let z : 0 + i ≡ i = omega arith in
    ap (take 32) (sym (drop-drop (32 * i) from (front ++ rest)))
    ∙ ap (λ zs. take 32 (drop (32 * i) zs)) (drop_at front rest from at)
    ∙ take-drop-flat_map g long n i 0 inside
    ∙ ap g z

-- a map over a range reads its function there alone
map-range : {X : Type 0} (f g : ℕ → X) → (n a : ℕ) → ((i : ℕ) → i < a + n → f i ≡ g i)
    → map f (range_with_len a n) ≡ map g (range_with_len a n)
map-range f g zero a same = refl
map-range f g (suc n) a same =
    ap (λ x. x ∷ map f (range_with_len (a + 1) n)) (same a (omega arith))
    ∙ ap (λ zs. g a ∷ zs) (map-range f g n (a + 1) (λ i below. same i (omega arith)))

pub map-below : {X : Type 0} (f g : ℕ → X) → (n : ℕ) → ((i : ℕ) → i < n → f i ≡ g i)
    → map f (range_with_len 0 n) ≡ map g (range_with_len 0 n)
map-below f g n same = map-range f g n 0 (λ i below. same i (omega arith))

-- the first four bytes, read one by one
pub from_be_bytes-take : (s : List ℕ)
    → from_be_bytes w32 (get_or s 0 0 ∷ get_or s 1 0 ∷ get_or s 2 0 ∷ get_or s 3 0 ∷ []) ≡ from_be_bytes w32 (take 4 s)
from_be_bytes-take s =
    let a = get_or-take 4 s 0 0 (omega arith) in
    let b = get_or-take 4 s 1 0 (omega arith) in
    let d = get_or-take 4 s 2 0 (omega arith) in
    let e = get_or-take 4 s 3 0 (omega arith) in
    omega arith

-- a string of 32 bytes in a slice
pub part-slice : (values : List ℕ) (i start last : ℕ) → start ≡ 32 * i → last ≡ start + 32
    → take (last - start) (drop start values) ≡ part values 0 i
part-slice values i start last from to =
    let n : last - start ≡ 32 = omega arith in
    let k : start ≡ 0 + 32 * i = omega arith in
    ap (λ m. take m (drop start values)) n ∙ ap (λ m. take 32 (drop m values)) k
