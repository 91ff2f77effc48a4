-- Bytes in their printed form encode themselves.
use Rattle.std.proofs.Common.{◌≡◌, ◌∙◌, ℕ, ◌+◌, ◌-◌, ◌*◌, ◌/◌, ◌%◌, ◌<◌, ◌≤◌, ◌++◌, Bool, true, false, cond, List, [], ◌∷◌, refl, sym, ap}
use Rattle.std.proofs.Common.{subst, arith}
use Rattle.std.specs.Prelude.{◌↔◌, ◌||◌, ◌==◌, ◌&&◌, nat_le, Option, Some, None}
use Rattle.std.specs.Fmt.{digit_glyph}
use Rattle.std.specs.List.{AllByRecursion, AllPass}
use borrow.Author.Tests.{leb-true}
use Rattle.std.proofs.lemmas.Bool.{and_parts, eqb-true}
use Rattle.std.proofs.lemmas.Bool.Decides.{nat_tests}
use Rattle.std.proofs.lemmas.List.Elements.{All-nil, All-cons, All-append}
use Rattle.std.proofs.lemmas.Option.{some_pair_parts}
use Rattle.plain_text.specs.Transactions.{first_spelled_byte, before, byte_of, nibble, is_plain, StandsFor, byte_text, bytes_text}

-- a digit is read back
nibble-digit_glyph : (d : ℕ) → d < 16 → nibble (digit_glyph false d) ≡ Some d
nibble-digit_glyph d small = grind (arith, nat_tests)

-- a digit that was read is the one that is printed
digit_glyph-nibble : (c d : ℕ) → nibble c ≡ Some d → (c ≡ digit_glyph false d) × (d < 16)
digit_glyph-nibble c d e = by_digit (nat_le 48 c && nat_le c 57) refl e
  where
    by_letter : (t : Bool) → (nat_le 97 c && nat_le c 102) ≡ t → cond t (Some (c - 87)) None ≡ Some d → (c ≡ digit_glyph false d) × (d < 16)
    by_letter true is e =
        let parts = and_parts (nat_le 97 c) (nat_le c 102) is in
        let low : 97 ≤ c = leb-true 97 c parts.0 in
        let high : c ≤ 102 = leb-true c 102 parts.1 in
        let value : c - 87 ≡ d = cc in
        (grind (arith, nat_tests), omega arith)
    by_letter false is e = absurd cc

    by_digit : (t : Bool) → (nat_le 48 c && nat_le c 57) ≡ t
        → cond t (Some (c - 48)) (cond (nat_le 97 c && nat_le c 102) (Some (c - 87)) None) ≡ Some d → (c ≡ digit_glyph false d) × (d < 16)
    by_digit true is e =
        let parts = and_parts (nat_le 48 c) (nat_le c 57) is in
        let low : 48 ≤ c = leb-true 48 c parts.0 in
        let high : c ≤ 57 = leb-true c 57 parts.1 in
        let value : c - 48 ≡ d = cc in
        (grind (arith, nat_tests), omega arith)
    by_digit false is e = by_letter (nat_le 97 c && nat_le c 102) refl e

-- two digits that were read are those of their byte
escape_read : (high low : Option ℕ) (b : ℕ) → byte_of high low ≡ Some b
    → (h : ℕ) × ((l : ℕ) × ((high ≡ Some h) × ((low ≡ Some l) × ((b ≡ 16 * h + l) × (is_plain b ≡ false)))))
escape_read (Some h) (Some l) b e = by_test (is_plain (16 * h + l)) refl e
  where
    by_test : (t : Bool) → is_plain (16 * h + l) ≡ t → cond t None (Some (16 * h + l)) ≡ Some b
        → (x : ℕ) × ((y : ℕ) × ((Some h ≡ Some x) × ((Some l ≡ Some y) × ((b ≡ 16 * x + y) × (is_plain b ≡ false)))))
    by_test true is e = absurd cc
    by_test false is e = let same : b ≡ 16 * h + l = cc in (h, (l, (refl, (refl, (same, subst (λ x. is_plain x ≡ false) (sym same) is)))))
escape_read (Some h) None b e = absurd cc
escape_read None low b e = absurd cc

-- what is plain is no backslash
plain_bare : (b : ℕ) → is_plain b ≡ true → (b == 0x5c) ≡ false
plain_bare b is = by_test (b == 0x5c) refl
  where
    by_test : (t : Bool) → (b == 0x5c) ≡ t → t ≡ false
    by_test true e = let at : b ≡ 0x5c = eqb-true b 0x5c e in let bad : false ≡ true =
        subst (λ (x : ℕ). is_plain x ≡ true) at is in absurd cc
    by_test false e = refl

-- what is plain is a byte
plain_small : (b : ℕ) → is_plain b ≡ true → b < 256
plain_small b is = grind (arith, nat_tests)

-- a byte that is printed as itself is read
plain_read : (b : ℕ) (rest : List ℕ) → is_plain b ≡ true → first_spelled_byte (b ∷ rest) ≡ Some (b, rest)
plain_read b [] is = rw is refl
plain_read b (c ∷ []) is = rw is refl
plain_read b (c ∷ d ∷ rest) is =
    let read : before (cond (is_plain b) (Some b) None) (c ∷ d ∷ rest) ≡ Some (b, c ∷ d ∷ rest) = rw is refl in
    subst (λ (t : Bool). cond t (before (byte_of (nibble c) (nibble d)) rest) (before (cond (is_plain b) (Some b) None) (c ∷ d ∷ rest))
    ≡ Some (b, c ∷ d ∷ rest))
    (sym (plain_bare b is)) read

-- a byte that is printed as two digits is read
escape_reads : (b h l : ℕ) (rest : List ℕ) → is_plain b ≡ false → h < 16 → l < 16 → b ≡ 16 * h + l
    → first_spelled_byte (0x5c ∷ digit_glyph false h ∷ digit_glyph false l ∷ rest) ≡ Some (b, rest)
escape_reads b h l rest is high low e =
    let bare : is_plain (16 * h + l) ≡ false = subst (λ (x : ℕ). is_plain x ≡ false) e is in
    let byte : byte_of (Some h) (Some l) ≡ Some b = rw bare (ap Some (sym e)) in
    rw (nibble-digit_glyph h high, nibble-digit_glyph l low) (ap (λ o. before o rest) byte)

-- a byte that is printed is read
pub first_byte-byte_text : (b : ℕ) (rest : List ℕ) → b < 256 → first_spelled_byte (byte_text b ++ rest) ≡ Some (b, rest)
unfolding byte_text
first_byte-byte_text b rest small = by_test (is_plain b) refl
  where
    by_test : (t : Bool) → is_plain b ≡ t
        → first_spelled_byte (cond t (b ∷ []) (0x5c ∷ digit_glyph false (b / 16) ∷ digit_glyph false (b % 16) ∷ []) ++ rest) ≡ Some (b, rest)
    by_test true is = plain_read b rest is
    by_test false is = escape_reads b (b / 16) (b % 16) rest is (omega arith) (omega arith) (omega arith)

-- a byte, and what comes after it
before_parts : (o : Option ℕ) (after rest : List ℕ) (b : ℕ) → before o after ≡ Some (b, rest) → (o ≡ Some b) × (after ≡ rest)
before_parts None after rest b e = absurd cc
before_parts (Some x) after rest b e = let parts = some_pair_parts x b after rest e in (ap Some parts.0, parts.1)

-- a plain byte was read
by_plain : (x : ℕ) (after rest : List ℕ) (b : ℕ) → (cond (is_plain x) (Some x) None ≡ Some b) × (after ≡ rest)
    → (x ∷ after ≡ byte_text b ++ rest) × (b < 256)
unfolding byte_text
by_plain x after rest b (one, more) = by_test (is_plain x) refl one
  where
    by_test : (t : Bool) → is_plain x ≡ t → cond t (Some x) None ≡ Some b → (x ∷ after ≡ byte_text b ++ rest) × (b < 256)
    by_test true is h =
        let same : x ≡ b = cc in
        let plain : is_plain b ≡ true = subst (λ (y : ℕ). is_plain y ≡ true) same is in (
          subst (λ (t : Bool). x ∷ after ≡ cond t (b ∷ []) (0x5c ∷ digit_glyph false (b / 16) ∷ digit_glyph false (b % 16) ∷ []) ++ rest)
              (sym plain) cc,
          plain_small b plain,
        )
    by_test false is h = absurd cc

-- two digits were read
by_escape : (x y z : ℕ) (after rest : List ℕ) (b : ℕ) → x ≡ 0x5c → (byte_of (nibble y) (nibble z) ≡ Some b) × (after ≡ rest)
    → (x ∷ y ∷ z ∷ after ≡ byte_text b ++ rest) × (b < 256)
unfolding byte_text
by_escape x y z after rest b at (byte, more) =
    let (h, (l, (high, (low, (value, plain))))) = escape_read (nibble y) (nibble z) b byte in
    let first = digit_glyph-nibble y h high in
    let second = digit_glyph-nibble z l low in
    let upper : b / 16 ≡ h = omega (arith, first.1, second.1) in
    let lower : b % 16 ≡ l = omega (arith, first.1, second.1) in
    let digits : y ∷ z ∷ after ≡ digit_glyph false (b / 16) ∷ digit_glyph false (b % 16) ∷ rest = rw (upper, lower) cc in (
      subst (λ (t : Bool). x ∷ y ∷ z ∷ after ≡ cond t (b ∷ []) (0x5c ∷ digit_glyph false (b / 16) ∷ digit_glyph false (b % 16) ∷ [])
          ++ rest) (sym plain) cc,
      omega (arith, first.1, second.1),
    )

-- a byte that was read is the one that is printed so
pub byte_text-first_byte : (text rest : List ℕ) (b : ℕ) → first_spelled_byte text ≡ Some (b, rest) → (text ≡ byte_text b ++ rest) × (b < 256)
unfolding byte_text
byte_text-first_byte [] rest b e = absurd cc
byte_text-first_byte (x ∷ []) rest b e = by_plain x [] rest b (before_parts (cond (is_plain x) (Some x) None) [] rest b e)
byte_text-first_byte (x ∷ y ∷ []) rest b e = by_plain x (y ∷ []) rest b (before_parts (cond (is_plain x) (Some x) None) (y ∷ []) rest b e)
byte_text-first_byte (x ∷ y ∷ z ∷ more) rest b e = by_test (x == 0x5c) refl e
  where
    by_test : (t : Bool) → (x == 0x5c) ≡ t
        → cond t (before (byte_of (nibble y) (nibble z)) more) (before (cond (is_plain x) (Some x) None) (y ∷ z ∷ more)) ≡ Some (b, rest)
        → (x ∷ y ∷ z ∷ more ≡ byte_text b ++ rest) × (b < 256)
    by_test true is h = by_escape x y z more rest b (eqb-true x 0x5c is) (before_parts (byte_of (nibble y) (nibble z)) more rest b h)
    by_test false is h = by_plain x (y ∷ z ∷ more) rest b (before_parts (cond (is_plain x) (Some x) None) (y ∷ z ∷ more) rest b h)

-- what stands for bytes is their text
pub bytes_text-stands_for : (text bytes : List ℕ) → StandsFor text bytes → (text ≡ bytes_text bytes) × AllByRecursion (λ b. b < 256) bytes
unfolding bytes_text
bytes_text-stands_for text [] stands = (stands, tt)
bytes_text-stands_for text (b ∷ bytes) (rest, (first, stands)) =
    let one = byte_text-first_byte text rest b first in
    let more = bytes_text-stands_for rest bytes stands in
    (one.0 ∙ ap (λ t. byte_text b ++ t) more.0, (one.1, more.1))

-- the text of bytes stands for them
pub stands_for-bytes_text : (bytes : List ℕ) → AllByRecursion (λ b. b < 256) bytes → StandsFor (bytes_text bytes) bytes
unfolding bytes_text
stands_for-bytes_text [] small = refl
stands_for-bytes_text (b ∷ bytes) (first, more) =
    (bytes_text bytes, (first_byte-byte_text b (bytes_text bytes) first, stands_for-bytes_text bytes more))

-- a text stands for bytes exactly where it is their text
pub stands_for-iff : (text bytes : List ℕ) → StandsFor text bytes ↔ ((text ≡ bytes_text bytes) × AllByRecursion (λ b. b < 256) bytes)
stands_for-iff text bytes = (
  bytes_text-stands_for text bytes,
  λ h. subst (λ t. StandsFor t bytes) (sym h.0)
      (stands_for-bytes_text bytes h.1),
)

-- a byte of such a text: one that stands for itself, or the backslash
abbrev pub is_spelled : ℕ → Bool
is_spelled c = is_plain c || c == 0x5c

-- a digit stands for itself
is_spelled-digit_glyph : (d : ℕ) → d < 16 → is_spelled (digit_glyph false d) ≡ true
is_spelled-digit_glyph d small = grind (arith, nat_tests)

-- a byte is written in bytes that stand for themselves and backslashes
is_spelled-byte_text : (b : ℕ) → b < 256 → AllPass is_spelled (byte_text b)
unfolding byte_text
is_spelled-byte_text b small = by_test (is_plain b) refl
  where
    by_test : (t : Bool) → is_plain b ≡ t
        → AllPass is_spelled (cond t (b ∷ []) (0x5c ∷ digit_glyph false (b / 16) ∷ digit_glyph false (b % 16) ∷ []))
    by_test true is = All-cons (λ c. is_spelled c ≡ true) b [] (ap (λ t. t || b == 0x5c) is) (All-nil (λ c. is_spelled c ≡ true))
    by_test false is =
        All-cons (λ c. is_spelled c ≡ true) 0x5c (digit_glyph false (b / 16) ∷ digit_glyph false (b % 16) ∷ []) refl
        (All-cons (λ c. is_spelled c ≡ true) (digit_glyph false (b / 16)) (digit_glyph false (b % 16) ∷ [])
        (is_spelled-digit_glyph (b / 16) (omega arith))
        (All-cons (λ c. is_spelled c ≡ true) (digit_glyph false (b % 16)) [] (is_spelled-digit_glyph (b % 16) (omega arith))
        (All-nil (λ c. is_spelled c ≡ true))))

-- so are all bytes
pub is_spelled-bytes_text : (bytes : List ℕ) → AllByRecursion (λ b. b < 256) bytes → AllPass is_spelled (bytes_text bytes)
unfolding bytes_text
is_spelled-bytes_text [] small = All-nil (λ c. is_spelled c ≡ true)
is_spelled-bytes_text (b ∷ bytes) (first, more) =
    All-append (λ c. is_spelled c ≡ true) (byte_text b) (bytes_text bytes) (is_spelled-byte_text b first) (is_spelled-bytes_text bytes more)
