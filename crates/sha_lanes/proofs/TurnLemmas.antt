-- The words of the message that follows a message of 55 bytes.
use Rattle.std.proofs.Common.{◌≡◌, ℕ, zero, suc, ◌+◌, ◌-◌, ◌*◌, ◌/◌, ◌%◌, ◌^◌, ◌<◌, ◌≤◌, List, [], ◌∷◌, ◌++◌, length, take, slice_index}
use Rattle.std.proofs.Common.{refl, sym, ap, subst, inl, inr, ◌∙◌, arith, mod-lt}
use Rattle.std.proofs.lemmas.List.{get_or-append_right, get_or_append_left, get_or-take, length-append, length-take-le}
use Rattle.std.proofs.lemmas.List.{take_at, take_more, append_assoc}
use Rattle.std.proofs.lemmas.Nat.{be_bytes_4}
use Rattle.std.proofs.Math.ListN.{get_or-eq_default}
use Rattle.std.proofs.lemmas.Bool.{cases_lt}
use Rattle.std.specs.Int.{w32, to_be_bytes}
use Rattle.sha2.specs.Sha256.{add32, compress, digest_bytes, initial_hash_256, padded_message, round, round_constants, rounds, sha256}
use Rattle.sha2.specs.Sha256.{word_at}
use Rattle.sha2.proofs.Facts256.{length-sha256}
use Rattle.sha_lanes.specs.Turns.{AreBytes, next_message, after_turns}
use Rattle.sha_lanes.proofs.Blocks.{padded-one, digest-one}
use Rattle.sha_lanes.proofs.LaneLemmas.{below_eight, below_sixteen}

-- a word of four bytes
pub word-parts : (b : List ℕ) (i : ℕ)
    → word_at b i ≡ slice_index b i * 16777216 + slice_index b (i + 1) * 65536 + slice_index b (i + 2) * 256 + slice_index b (i + 3)
word-parts b i = omega arith

-- ---- the bytes of the next message

front-is : (m : List ℕ) → length m ≡ 55 → length (take 22 m ++ ((slice_index m 22 + 1) % 256 ∷ [])) ≡ 23
front-is m whole = omega (arith, length-append (take 22 m) ((slice_index m 22 + 1) % 256 ∷ []), length-take-le 22 m (omega arith))

pub length-next : (m : List ℕ) → length m ≡ 55 → length (next_message m) ≡ 55
unfolding next_message
length-next m whole = omega (
  arith,
  front-is m whole,
  length-append (take 22 m ++ ((slice_index m 22 + 1) % 256 ∷ [])) (sha256 m),
  length-sha256 m,
)

next-front : (m : List ℕ) (i : ℕ) → length m ≡ 55 → i < 22 → slice_index (next_message m) i ≡ slice_index m i
unfolding next_message
next-front m i whole low =
    let l = length-take-le 22 m (omega arith) in
    get_or_append_left (take 22 m ++ ((slice_index m 22 + 1) % 256 ∷ [])) (sha256 m) 0 i (omega (arith, front-is m whole))
    ∙ get_or_append_left (take 22 m) ((slice_index m 22 + 1) % 256 ∷ []) 0 i (omega arith) ∙ get_or-take 22 m i 0 low

next-step : (m : List ℕ) → length m ≡ 55 → slice_index (next_message m) 22 ≡ (slice_index m 22 + 1) % 256
unfolding next_message
next-step m whole =
    let l = length-take-le 22 m (omega arith) in
    get_or_append_left (take 22 m ++ ((slice_index m 22 + 1) % 256 ∷ [])) (sha256 m) 0 22 (omega (arith, front-is m whole))
    ∙ get_or-append_right (take 22 m) ((slice_index m 22 + 1) % 256 ∷ []) 22 22 0 l (omega arith)

next-digest : (m : List ℕ) (r : ℕ) → length m ≡ 55 → slice_index (next_message m) (23 + r) ≡ slice_index (sha256 m) r
unfolding next_message
next-digest m r whole =
    let back : 23 + r - 23 ≡ r = omega arith in
    get_or-append_right (take 22 m ++ ((slice_index m 22 + 1) % 256 ∷ [])) (sha256 m) 23 (23 + r) 0 (front-is m whole) (omega arith)
    ∙ ap (slice_index (sha256 m)) back

-- what follows a message
abbrev tail : List ℕ
tail = 0x80 ∷ 0 ∷ 0 ∷ 0 ∷ 0 ∷ 0 ∷ 0 ∷ 0x01 ∷ 0xb8 ∷ []

padded-front : (m : List ℕ) (i : ℕ) → length m ≡ 55 → i < 55 → slice_index (padded_message m) i ≡ slice_index m i
padded-front m i whole low = ap (λ xs. slice_index xs i) (padded-one m whole) ∙ get_or_append_left m tail 0 i (omega arith)

padded-back : (m : List ℕ) (i : ℕ) → length m ≡ 55 → slice_index (padded_message m) (55 + i) ≡ slice_index tail i
padded-back m i whole =
    let back : 55 + i - 55 ≡ i = omega arith in
    ap (λ xs. slice_index xs (55 + i)) (padded-one m whole) ∙ get_or-append_right m tail 55 (55 + i) 0 whole (omega arith)
    ∙ ap (slice_index tail) back

-- ---- the bytes of a digest

length-digest : (h : List ℕ) (n : ℕ) → length (digest_bytes h n) ≡ 4 * n
unfolding digest_bytes
length-digest h zero = refl
length-digest h (suc n) = omega (arith, length-digest h n, length-append (digest_bytes h n) (to_be_bytes w32 (slice_index h n)))

-- the bytes of word i
digest-byte : (h : List ℕ) (n i r : ℕ) → i < n → r < 4
    → slice_index (digest_bytes h n) (4 * i + r) ≡ slice_index (to_be_bytes w32 (slice_index h i)) r
unfolding digest_bytes
digest-byte h zero i r low inside = absurd (omega arith)
digest-byte h (suc n) i r low inside = elim (cases_lt i n) [
  | inl before ↦
      get_or_append_left (digest_bytes h n) (to_be_bytes w32 (slice_index h n)) 0 (4 * i + r) (omega (arith, length-digest h n))
      ∙ digest-byte h n i r before inside
  | inr here ↦
      let e : n ≡ i = omega arith in
      let back : 4 * i + r - 4 * n ≡ r = omega arith in
      get_or-append_right (digest_bytes h n) (to_be_bytes w32 (slice_index h n)) (4 * n) (4 * i + r) 0 (length-digest h n) (omega arith)
      ∙ ap (slice_index (to_be_bytes w32 (slice_index h n))) back ∙ ap (λ k. slice_index (to_be_bytes w32 (slice_index h k)) r) e
]

-- a word of a hash value fits one
pub state-fits : (h b : List ℕ) (i : ℕ) → i < 8 → slice_index (compress h b) i < 2 ^ 32
unfolding compress
state-fits h b = below_eight _ (mod-lt _ (omega arith)) (mod-lt _ (omega arith)) (mod-lt _ (omega arith)) (mod-lt _ (omega arith))
    (mod-lt _ (omega arith)) (mod-lt _ (omega arith)) (mod-lt _ (omega arith)) (mod-lt _ (omega arith))

-- the four bytes of a word
byte-0 : (n : ℕ) → slice_index (to_be_bytes w32 n) 0 ≡ n / 16777216 % 256
byte-0 n = refl

byte-1 : (n : ℕ) → slice_index (to_be_bytes w32 n) 1 ≡ n / 65536 % 256
byte-1 n = refl

byte-2 : (n : ℕ) → slice_index (to_be_bytes w32 n) 2 ≡ n / 256 % 256
byte-2 n = refl

byte-3 : (n : ℕ) → slice_index (to_be_bytes w32 n) 3 ≡ n % 256
byte-3 n = refl

-- ---- rounds

-- n rounds look at n words
pub rounds-same : (h ws vs : List ℕ) (n : ℕ) → ((t : ℕ) → t < n → slice_index ws t ≡ slice_index vs t) → rounds h ws n ≡ rounds h vs n
unfolding rounds
rounds-same h ws vs zero same = refl
rounds-same h ws vs (suc n) same =
    (λ i. round (rounds-same h ws vs n (λ t low. same t (omega arith)) i) (slice_index round_constants n) (same n (omega arith) i))

-- ---- the words of the next message

-- a byte of the digest in the padded next message, where h is the hash value of the message
next-byte : (m h : List ℕ) (i r : ℕ) → length m ≡ 55 → digest_bytes h 8 ≡ sha256 m → i < 8 → r < 4
    → slice_index (padded_message (next_message m)) (23 + (4 * i + r)) ≡ slice_index (to_be_bytes w32 (slice_index h i)) r
next-byte m h i r whole digest low inside =
    padded-front (next_message m) (23 + (4 * i + r)) (length-next m whole) (omega arith) ∙ next-digest m (4 * i + r) whole
    ∙ ap (λ d. slice_index d (4 * i + r)) (sym digest) ∙ digest-byte h 8 i r low inside

next-same : (m : List ℕ) (i : ℕ) → length m ≡ 55 → i < 22
    → slice_index (padded_message m) i ≡ slice_index (padded_message (next_message m)) i
next-same m i whole low =
    padded-front m i whole (omega arith)
    ∙ sym (padded-front (next_message m) i (length-next m whole) (omega arith) ∙ next-front m i whole low)

word-same : (a b : List ℕ) (i : ℕ) → slice_index a i ≡ slice_index b i → slice_index a (i + 1) ≡ slice_index b (i + 1)
    → slice_index a (i + 2) ≡ slice_index b (i + 2) → slice_index a (i + 3) ≡ slice_index b (i + 3) → word_at a i ≡ word_at b i
word-same a b i e0 e1 e2 e3 = omega (arith, word-parts a i, word-parts b i)

-- the first five words stay
pub word-front : (m : List ℕ) (k : ℕ) → length m ≡ 55 → k < 5
    → word_at (padded_message m) (4 * k) ≡ word_at (padded_message (next_message m)) (4 * k)
word-front m k whole low =
    word-same (padded_message m) (padded_message (next_message m)) (4 * k)
    (next-same m (4 * k) whole (omega arith)) (next-same m (4 * k + 1) whole (omega arith)) (next-same m (4 * k + 2) whole (omega arith))
    (next-same m (4 * k + 3) whole (omega arith))

-- and so do the last two
pub word-back : (m : List ℕ) (k : ℕ) → length m ≡ 55 → 14 ≤ k
    → word_at (padded_message m) (4 * k) ≡ word_at (padded_message (next_message m)) (4 * k)
word-back m k whole high =
    let at : (i : ℕ) → 55 ≤ i → slice_index (padded_message m) i ≡ slice_index (padded_message (next_message m)) i = λ i behind.
    let e : 55 + (i - 55) ≡ i = omega arith in
    subst (λ n. slice_index (padded_message m) n ≡ slice_index (padded_message (next_message m)) n) e
    (padded-back m (i - 55) whole ∙ sym (padded-back (next_message m) (i - 55) (length-next m whole))) in
    word-same (padded_message m) (padded_message (next_message m)) (4 * k) (at (4 * k) (omega arith)) (at (4 * k + 1) (omega arith))
    (at (4 * k + 2) (omega arith)) (at (4 * k + 3) (omega arith))

joined-parts : (x y a b c d : ℕ) → x < 2 ^ 32 → y < 2 ^ 32 → a ≡ x / 65536 % 256 → b ≡ x / 256 % 256 → c ≡ x % 256 → d ≡ y / 16777216 % 256
    → add32 (x * 2 ^ 8 % 2 ^ 32) (y / 2 ^ 24) ≡ a * 16777216 + b * 65536 + c * 256 + d
joined-parts x y a b c d fx fy ea eb ec ed = omega arith

-- the words of the digest but the last
pub word-joined : (m h : List ℕ) (i : ℕ) → length m ≡ 55 → digest_bytes h 8 ≡ sha256 m → ((i : ℕ) → i < 8 → slice_index h i < 2 ^ 32)
    → i < 7
    → add32 (slice_index h i * 2 ^ 8 % 2 ^ 32) (slice_index h (i + 1) / 2 ^ 24) ≡ word_at (padded_message (next_message m)) (4 * (6 + i))
word-joined m h i whole digest fits low =
    let p = padded_message (next_message m) in
    let e0 : 4 * (6 + i) ≡ 23 + (4 * i + 1) = omega arith in
    let e1 : 4 * (6 + i) + 1 ≡ 23 + (4 * i + 2) = omega arith in
    let e2 : 4 * (6 + i) + 2 ≡ 23 + (4 * i + 3) = omega arith in
    let e3 : 4 * (6 + i) + 3 ≡ 23 + (4 * (i + 1) + 0) = omega arith in
    joined-parts (slice_index h i) (slice_index h (i + 1)) _ _ _ _ (fits i (omega arith)) (fits (i + 1) (omega arith))
    (ap (slice_index p) e0 ∙ next-byte m h i 1 whole digest (omega arith) (omega arith))
    (ap (slice_index p) e1 ∙ next-byte m h i 2 whole digest (omega arith) (omega arith))
    (ap (slice_index p) e2 ∙ next-byte m h i 3 whole digest (omega arith) (omega arith))
    (ap (slice_index p) e3 ∙ next-byte m h (i + 1) 0 whole digest (omega arith) (omega arith))
    ∙ sym (word-parts p (4 * (6 + i)))

ended-parts : (x a b c d : ℕ) → x < 2 ^ 32 → a ≡ x / 65536 % 256 → b ≡ x / 256 % 256 → c ≡ x % 256 → d ≡ 128
    → add32 (x * 2 ^ 8 % 2 ^ 32) 128 ≡ a * 16777216 + b * 65536 + c * 256 + d
ended-parts x a b c d fx ea eb ec ed = omega arith

-- the last word of the digest, and the first byte of the padding
pub word-ended : (m h : List ℕ) → length m ≡ 55 → digest_bytes h 8 ≡ sha256 m → ((i : ℕ) → i < 8 → slice_index h i < 2 ^ 32)
    → add32 (slice_index h 7 * 2 ^ 8 % 2 ^ 32) 128 ≡ word_at (padded_message (next_message m)) 52
word-ended m h whole digest fits =
    let p = padded_message (next_message m) in
    ended-parts (slice_index h 7) _ _ _ _ (fits 7 (omega arith))
    (next-byte m h 7 1 whole digest (omega arith) (omega arith))
    (next-byte m h 7 2 whole digest (omega arith) (omega arith))
    (next-byte m h 7 3 whole digest (omega arith) (omega arith))
    (padded-back (next_message m) 0 (length-next m whole))
    ∙ sym (word-parts p 52)

counted-parts : (w y a b s z d : ℕ) → w ≡ a * 16777216 + b * 65536 + s * 256 + z → a < 256 → b < 256 → s < 256 → z < 256 → y < 2 ^ 32
    → d ≡ y / 16777216 % 256
    → add32 (add32 (w / 2 ^ 16 * 2 ^ 16 % 2 ^ 32) (add32 (w / 2 ^ 8) 1 * 2 ^ 24 % 2 ^ 32 / 2 ^ 16)) (y / 2 ^ 24)
    ≡ a * 16777216 + b * 65536 + (s + 1) % 256 * 256 + d
counted-parts w y a b s z d is fa fb fs fz fy ed = omega arith

-- the word with the byte that is counted up
pub word-counted : (m h : List ℕ) (w : ℕ) → length m ≡ 55 → AreBytes m → digest_bytes h 8 ≡ sha256 m
    → ((i : ℕ) → i < 8 → slice_index h i < 2 ^ 32) → w ≡ word_at (padded_message m) 20
    → add32 (add32 (w / 2 ^ 16 * 2 ^ 16 % 2 ^ 32) (add32 (w / 2 ^ 8) 1 * 2 ^ 24 % 2 ^ 32 / 2 ^ 16)) (slice_index h 0 / 2 ^ 24)
    ≡ word_at (padded_message (next_message m)) 20
word-counted m h w whole bytes digest fits is =
    let p = padded_message (next_message m) in
    let old : w ≡ slice_index m 20 * 16777216 + slice_index m 21 * 65536 + slice_index m 22 * 256 + slice_index m 23 =
    is ∙ omega (
      arith,
      word-parts (padded_message m) 20,
      padded-front m 20 whole (omega arith),
      padded-front m 21 whole (omega arith),
      padded-front m 22 whole (omega arith),
      padded-front m 23 whole (omega arith),
    ) in
    let b0 : slice_index m 20 ≡ slice_index p 20 = sym (padded-front m 20 whole (omega arith)) ∙ next-same m 20 whole (omega arith) in
    let b1 : slice_index m 21 ≡ slice_index p 21 = sym (padded-front m 21 whole (omega arith)) ∙ next-same m 21 whole (omega arith) in
    let b2 : (slice_index m 22 + 1) % 256 ≡ slice_index p 22 =
    sym (padded-front (next_message m) 22 (length-next m whole) (omega arith) ∙ next-step m whole) in
    counted-parts w (slice_index h 0) (slice_index m 20) (slice_index m 21) (slice_index m 22) (slice_index m 23) _ old (bytes 20)
    (bytes 21) (bytes 22) (bytes 23) (fits 0 (omega arith))
    (next-byte m h 0 0 whole digest (omega arith) (omega arith))
    ∙ omega (arith, word-parts p 20)

-- ---- bytes

byte-lt : (n r : ℕ) → r < 4 → slice_index (to_be_bytes w32 n) r < 256
byte-lt n zero low = mod-lt _ (omega arith)
byte-lt n (suc zero) low = mod-lt _ (omega arith)
byte-lt n (suc (suc zero)) low = mod-lt _ (omega arith)
byte-lt n (suc (suc (suc zero))) low = mod-lt _ (omega arith)
byte-lt n (suc (suc (suc (suc r)))) low = absurd (omega arith)

bytes-tail : (i : ℕ) → slice_index tail i < 256
bytes-tail zero = omega arith
bytes-tail (suc zero) = omega arith
bytes-tail (suc (suc zero)) = omega arith
bytes-tail (suc (suc (suc zero))) = omega arith
bytes-tail (suc (suc (suc (suc zero)))) = omega arith
bytes-tail (suc (suc (suc (suc (suc zero))))) = omega arith
bytes-tail (suc (suc (suc (suc (suc (suc zero)))))) = omega arith
bytes-tail (suc (suc (suc (suc (suc (suc (suc zero))))))) = omega arith
bytes-tail (suc (suc (suc (suc (suc (suc (suc (suc zero)))))))) = omega arith
bytes-tail (suc (suc (suc (suc (suc (suc (suc (suc (suc i))))))))) = omega arith

pub bytes-padded : (m : List ℕ) → length m ≡ 55 → AreBytes m → AreBytes (padded_message m)
bytes-padded m whole bytes i = elim (cases_lt i 55) [
  | inl low ↦ omega (arith, padded-front m i whole low, bytes i)
  | inr high ↦
      let e : 55 + (i - 55) ≡ i = omega arith in
      omega (arith, ap (slice_index (padded_message m)) e, padded-back m (i - 55) whole, bytes-tail (i - 55))
]

bytes-next : (m : List ℕ) → length m ≡ 55 → AreBytes m → AreBytes (next_message m)
bytes-next m whole bytes i = elim (cases_lt i 22) [
  | inl front ↦ omega (arith, next-front m i whole front, bytes i)
  | inr behind ↦ elim (cases_lt i 23) [
    | inl step ↦
        let e : i ≡ 22 = omega arith in
        omega (arith, ap (slice_index (next_message m)) e, next-step m whole)
    | inr later ↦ elim (cases_lt i 55) [
      | inl inside ↦
          let r = i - 23 in
          let e : 23 + (4 * (r / 4) + r % 4) ≡ i = omega arith in
          let h = compress initial_hash_256 (padded_message m) in
          let here = next-byte m h (r / 4) (r % 4) whole (digest-one m whole) (omega arith) (omega arith) in
          let low = byte-lt (slice_index h (r / 4)) (r % 4) (omega arith) in
          let same : slice_index (next_message m) i ≡ slice_index (to_be_bytes w32 (slice_index h (r / 4))) (r % 4) =
          sym (padded-front (next_message m) i (length-next m whole) inside) ∙ sym (ap (slice_index (padded_message (next_message m))) e)
          ∙ here in
          omega (arith, same, low)
      | inr past ↦ omega (arith, get_or-eq_default (next_message m) 0 {n = i} (omega (arith, length-next m whole)))
    ]
  ]
]

-- ---- turns

pub length-after : (m : List ℕ) (n : ℕ) → length m ≡ 55 → length (after_turns n m) ≡ 55
unfolding after_turns
length-after m zero whole = whole
length-after m (suc n) whole = length-next (after_turns n m) (length-after m n whole)

pub bytes-after : (m : List ℕ) (n : ℕ) → length m ≡ 55 → AreBytes m → AreBytes (after_turns n m)
unfolding after_turns
bytes-after m zero whole bytes = bytes
bytes-after m (suc n) whole bytes = bytes-next (after_turns n m) (length-after m n whole) (bytes-after m n whole bytes)

-- the words of the next message, where these are of a message
pub words-next : (m h : List ℕ) (w : ℕ → ℕ) (k5 k6 k7 k8 k9 k10 k11 k12 k13 : ℕ) → length m ≡ 55 → AreBytes m
    → ((k : ℕ) → k < 16 → w k ≡ word_at (padded_message m) (4 * k)) → h ≡ compress initial_hash_256 (padded_message m)
    → k5 ≡ add32 (add32 (w 5 / 2 ^ 16 * 2 ^ 16 % 2 ^ 32) (add32 (w 5 / 2 ^ 8) 1 * 2 ^ 24 % 2 ^ 32 / 2 ^ 16)) (slice_index h 0 / 2 ^ 24)
    → k6 ≡ add32 (slice_index h 0 * 2 ^ 8 % 2 ^ 32) (slice_index h 1 / 2 ^ 24)
    → k7 ≡ add32 (slice_index h 1 * 2 ^ 8 % 2 ^ 32) (slice_index h 2 / 2 ^ 24)
    → k8 ≡ add32 (slice_index h 2 * 2 ^ 8 % 2 ^ 32) (slice_index h 3 / 2 ^ 24)
    → k9 ≡ add32 (slice_index h 3 * 2 ^ 8 % 2 ^ 32) (slice_index h 4 / 2 ^ 24)
    → k10 ≡ add32 (slice_index h 4 * 2 ^ 8 % 2 ^ 32) (slice_index h 5 / 2 ^ 24)
    → k11 ≡ add32 (slice_index h 5 * 2 ^ 8 % 2 ^ 32) (slice_index h 6 / 2 ^ 24)
    → k12 ≡ add32 (slice_index h 6 * 2 ^ 8 % 2 ^ 32) (slice_index h 7 / 2 ^ 24)
    → k13 ≡ add32 (slice_index h 7 * 2 ^ 8 % 2 ^ 32) 128
    → (k : ℕ) → k < 16 → slice_index (w 0 ∷ w 1 ∷ w 2 ∷ w 3 ∷ w 4 ∷ k5 ∷ k6 ∷ k7 ∷ k8 ∷ k9 ∷ k10 ∷ k11 ∷ k12 ∷ k13 ∷ w 14 ∷ w 15 ∷ []) k
    ≡ word_at (padded_message (next_message m)) (4 * k)
words-next m h w k5 k6 k7 k8 k9 k10 k11 k12 k13 whole bytes read is e5 e6 e7 e8 e9 e10 e11 e12 e13 =
    let digest : digest_bytes h 8 ≡ sha256 m = ap (λ x. digest_bytes x 8) is ∙ digest-one m whole in
    let fits : (i : ℕ) → i < 8 → slice_index h i < 2 ^ 32 =
    λ i low. subst (λ x. slice_index x i < 2 ^ 32) (sym is) (state-fits initial_hash_256 (padded_message m) i low) in
    let front : (k : ℕ) → k < 5 → w k ≡ word_at (padded_message (next_message m)) (4 * k) =
    λ k low. read k (omega arith) ∙ word-front m k whole low in
    let joined : (i : ℕ) → i < 7 → add32 (slice_index h i * 2 ^ 8 % 2 ^ 32) (slice_index h (i + 1) / 2 ^ 24) ≡ word_at
    (padded_message (next_message m)) (4 * (6 + i)) = λ i low. word-joined m h i whole digest fits low in
    below_sixteen _ (front 0 (omega arith)) (front 1 (omega arith)) (front 2 (omega arith)) (front 3 (omega arith)) (front 4 (omega arith))
    (e5 ∙ word-counted m h (w 5) whole bytes digest fits (read 5 (omega arith)))
    (e6 ∙ joined 0 (omega arith)) (e7 ∙ joined 1 (omega arith)) (e8 ∙ joined 2 (omega arith)) (e9 ∙ joined 3 (omega arith))
    (e10 ∙ joined 4 (omega arith)) (e11 ∙ joined 5 (omega arith)) (e12 ∙ joined 6 (omega arith))
    (e13 ∙ word-ended m h whole digest fits)
    (read 14 (omega arith) ∙ word-back m 14 whole (omega arith)) (read 15 (omega arith) ∙ word-back m 15 whole (omega arith))

-- a word of a block, as bytes after those before it
pub take-word : (b : List ℕ) (k w : ℕ) → length b ≡ 64 → k < 16 → AreBytes b → w ≡ word_at b (4 * k)
    → take (4 * k) b ++ to_be_bytes w32 w ≡ take (4 * (k + 1)) b
take-word b k w whole low bytes is =
    let four : List ℕ = slice_index b (4 * k) ∷ slice_index b (4 * k + 1) ∷ slice_index b (4 * k + 2) ∷ slice_index b (4 * k + 3) ∷ [] in
    let small : (i : ℕ) → slice_index four i < 256 =
    bytes-four _ _ _ _ (bytes (4 * k)) (bytes (4 * k + 1)) (bytes (4 * k + 2)) (bytes (4 * k + 3)) in
    let e : 4 * (k + 1) ≡ 4 * k + 3 + 1 = omega arith in
    ap (λ word. take (4 * k) b ++ word) (be_bytes_4 four w refl small is)
    ∙ sym (ap (λ n. take n b) e ∙ four-more b (4 * k) (omega arith))
  where
    bytes-four : (x y z u : ℕ) → x < 256 → y < 256 → z < 256 → u < 256 → (i : ℕ) → slice_index (x ∷ y ∷ z ∷ u ∷ []) i < 256
    bytes-four x y z u fx fy fz fu zero = fx
    bytes-four x y z u fx fy fz fu (suc zero) = fy
    bytes-four x y z u fx fy fz fu (suc (suc zero)) = fz
    bytes-four x y z u fx fy fz fu (suc (suc (suc zero))) = fu
    bytes-four x y z u fx fy fz fu (suc (suc (suc (suc i)))) = omega arith

    four-more : (xs : List ℕ) (n : ℕ) → n + 3 < length xs
        → take (n + 3 + 1) xs ≡ take n xs
        ++ (slice_index xs n ∷ slice_index xs (n + 1) ∷ slice_index xs (n + 2) ∷ slice_index xs (n + 3) ∷ [])
    four-more xs n inside =
        let a = slice_index xs n ∷ [] in
        let b = slice_index xs (n + 1) ∷ [] in
        let c = slice_index xs (n + 2) ∷ [] in
        let d = slice_index xs (n + 3) ∷ [] in
        let e2 : n + 3 ≡ n + 2 + 1 = omega arith in
        let e1 : n + 2 ≡ n + 1 + 1 = omega arith in
        take_more xs (n + 3) 0 inside
        ∙ ap (λ zs. zs ++ d) (ap (λ k. take k xs) e2 ∙ take_more xs (n + 2) 0 (omega arith)
        ∙ ap (λ zs. zs ++ c) (ap (λ k. take k xs) e1 ∙ take_more xs (n + 1) 0 (omega arith)
        ∙ ap (λ zs. zs ++ b) (take_more xs n 0 (omega arith))))
        ∙ append_assoc (take n xs ++ a ++ b) c d ∙ append_assoc (take n xs ++ a) b (c ++ d) ∙ append_assoc (take n xs) a (b ++ (c ++ d))

-- one turn more
pub after-more : (m : List ℕ) (n : ℕ) → after_turns (n + 1) m ≡ next_message (after_turns n m)
unfolding after_turns
after-more m n = let e : n + 1 ≡ suc n = omega arith in ap (λ k. after_turns k m) e

-- a message is the front of its block
pub front-padded : (m : List ℕ) → length m ≡ 55 → take 55 (padded_message m) ≡ m
front-padded m whole = ap (take 55) (padded-one m whole) ∙ take_at m tail 55 whole
