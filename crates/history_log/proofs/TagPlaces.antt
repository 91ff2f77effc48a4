-- Where a tag can be, and what the hasher has taken there, for the search for a tag.
use Rattle.std.proofs.Common.{◌≡◌, ℕ, ◌+◌, ◌-◌, ◌≤◌, List, ◌++◌, length, take, drop, ap, append_assoc, length-take, length-drop, arith}
use Rattle.std.proofs.lemmas.List.{take-append-drop, take-take, drop-take}
use Rattle.history_log.specs.Records.{HasTagAt}
use Rattle.history_log.proofs.RecordParts.{length-tag_after}

-- a tag has its 16 bytes within the bytes
pub tag_within : (tag bytes : List ℕ) (n : ℕ) → HasTagAt tag bytes n → n + 16 ≤ length bytes
tag_within tag bytes n has =
    omega (arith, ap length has, length-tag_after tag (take n bytes), length-take 16 (drop n bytes), length-drop n bytes)

-- what a hasher has taken, one byte later
pub grown : (tag bytes : List ℕ) (n : ℕ) → tag ++ take n bytes ++ take (n + 1 - n) (drop n bytes) ≡ tag ++ take (n + 1) bytes
grown tag bytes n =
    let width : n + 1 - n ≡ 1 = omega arith in
    let parts : take n (take (n + 1) bytes) ++ drop n (take (n + 1) bytes) ≡ take (n + 1) bytes = take-append-drop n (take (n + 1) bytes) in
    let joined : take n bytes ++ take 1 (drop n bytes) ≡ take (n + 1) bytes =
    rw (take-take n (n + 1) bytes (omega arith), drop-take n 1 bytes) at parts in
    rw (width, append_assoc) (ap (λ (t : List ℕ). tag ++ t) joined)

-- the 16 bytes from a place on
pub sixteen_at : (bytes : List ℕ) (n : ℕ) → take (n + 16 - n) (drop n bytes) ≡ take 16 (drop n bytes)
sixteen_at bytes n =
    let width : n + 16 - n ≡ 16 = omega arith in
    ap (λ (k : ℕ). take k (drop n bytes)) width
