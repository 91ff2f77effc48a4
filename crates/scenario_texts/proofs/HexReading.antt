-- Hexadecimal digits are read back from their text.
use Rattle.std.proofs.Common.{◌≡◌, ◌∙◌, ℕ, ◌+◌, ◌-◌, ◌*◌, ◌/◌, ◌%◌, ◌<◌, ◌≤◌, zero, suc, Bool, true, false, cond, List, [], ◌∷◌, refl, sym}
use Rattle.std.proofs.Common.{ap, arith}
use Rattle.std.specs.Prelude.{◌&&◌, nat_le, Option, Some, None, Result, Ok, Err, slice_index}
use Rattle.std.specs.Char.{is_ascii_uppercase}
use Rattle.std.specs.List.{list_any, AllByRecursion}
use Rattle.std.specs.Result.{result_ok}
use Rattle.std.proofs.lemmas.Bool.{and_parts, leb-true, or_parts}
use Rattle.std.proofs.lemmas.Bool.Decides.{nat_tests}
use Rattle.std.proofs.lemmas.List.Elements.{All-weaker}
use Rattle.hex.specs.Hex.{decode_of, decode_pairs, encode_lower, encode_with, lower_digits, hex_digit_value, is_hex_digit, digit_or_error}
use Rattle.hex.specs.Hex.{pair_value, ◌>>=◌, IsBytes}
use Rattle.hex.specs.declared.error.FromHexError.{FromHexError}
use Rattle.hex.proofs.HexLemmas.{IsDigits-lower_digits, decode_of-encode_lower, decode_of-even, decode_of-ok}
use Rattle.scenario_texts.specs.Reading.{hex_of}
use Rattle.scenario_texts.proofs.Visible.{IsVisible, IsWord}

-- bytes, place by place
bytes_at : (bytes : List ℕ) → AllByRecursion (λ b. b < 256) bytes → IsBytes bytes
bytes_at [] small i = omega arith
bytes_at (b ∷ bytes) (first, small) zero = first
bytes_at (b ∷ bytes) (first, small) (suc i) = bytes_at bytes small i

-- bytes, one after another
bytes_each : (bytes : List ℕ) → IsBytes bytes → AllByRecursion (λ b. b < 256) bytes
bytes_each [] small = tt
bytes_each (b ∷ bytes) small = (small 0, bytes_each bytes (λ i. small (suc i)))

-- no place of a table without capitals has one
none_at : (t : List ℕ) → list_any is_ascii_uppercase t ≡ false → (d : ℕ) → is_ascii_uppercase (slice_index t d) ≡ false
none_at [] none d = refl
none_at (x ∷ t) none zero = (or_parts (is_ascii_uppercase x) (list_any is_ascii_uppercase t) none).0
none_at (x ∷ t) none (suc d) = none_at t (or_parts (is_ascii_uppercase x) (list_any is_ascii_uppercase t) none).1 d

-- the digits have no capitals
lower_at : (d : ℕ) → is_ascii_uppercase (slice_index lower_digits d) ≡ false
lower_at d = none_at lower_digits refl d

-- what is written has none
no_capitals : (bytes : List ℕ) → list_any is_ascii_uppercase (encode_lower bytes) ≡ false
unfolding encode_with
no_capitals [] = refl
no_capitals (b ∷ bytes) = rw (lower_at (b / 16), lower_at (b % 16), no_capitals bytes) refl

-- what is written is read
pub hex_of-again : (bytes : List ℕ) → AllByRecursion (λ b. b < 256) bytes → hex_of (encode_lower bytes) ≡ Some bytes
unfolding hex_of
hex_of-again bytes small = rw (no_capitals bytes) (ap result_ok (decode_of-encode_lower bytes (bytes_at bytes small)))

-- a digit that is no capital is a numeral or a small letter
data IsDigit (c v : ℕ) : Type 0 where
  numeral : 48 ≤ c → c ≤ 57 → c ≡ 48 + v → IsDigit c v
  letter : 97 ≤ c → c ≤ 102 → c ≡ 87 + v → IsDigit c v

digit_is : (c v : ℕ) → hex_digit_value c ≡ Some v → is_ascii_uppercase c ≡ false → IsDigit c v
digit_is c v e small = by_capital (nat_le 65 c && nat_le c 70) refl e
  where
    by_numeral : (t : Bool) → (nat_le 48 c && nat_le c 57) ≡ t → cond t (Some (c - 48)) None ≡ Some v → IsDigit c v
    by_numeral true is e =
        let parts = and_parts (nat_le 48 c) (nat_le c 57) is in
        let low = leb-true 48 c parts.0 in
        let high = leb-true c 57 parts.1 in
        let value : c - 48 ≡ v = cc in
        numeral low high (omega arith)
    by_numeral false is e = absurd cc

    by_letter : (t : Bool) → (nat_le 97 c && nat_le c 102) ≡ t
        → cond t (Some (c - 87)) (cond (nat_le 48 c && nat_le c 57) (Some (c - 48)) None) ≡ Some v → IsDigit c v
    by_letter true is e =
        let parts = and_parts (nat_le 97 c) (nat_le c 102) is in
        let low = leb-true 97 c parts.0 in
        let high = leb-true c 102 parts.1 in
        let value : c - 87 ≡ v = cc in
        letter low high (omega arith)
    by_letter false is e = by_numeral (nat_le 48 c && nat_le c 57) refl e

    by_capital : (t : Bool) → (nat_le 65 c && nat_le c 70) ≡ t
        → cond t (Some (c - 55)) (cond (nat_le 97 c && nat_le c 102) (Some (c - 87))
        (cond (nat_le 48 c && nat_le c 57) (Some (c - 48)) None)) ≡ Some v → IsDigit c v
    by_capital true is e =
        let parts = and_parts (nat_le 65 c) (nat_le c 70) is in
        let low = leb-true 65 c parts.0 in
        let high = leb-true c 70 parts.1 in
        let capital : is_ascii_uppercase c ≡ true = grind (arith, nat_tests) in
        absurd cc
    by_capital false is e = by_letter (nat_le 97 c && nat_le c 102) refl e

-- two digits without capitals that have one value are one
same_digit : (a b v : ℕ) → hex_digit_value a ≡ Some v → hex_digit_value b ≡ Some v → is_ascii_uppercase a ≡ false
    → is_ascii_uppercase b ≡ false → a ≡ b
same_digit a b v e f p q = by_cases a b v (digit_is a v e p) (digit_is b v f q)
  where
    by_cases : (a b v : ℕ) → IsDigit a v → IsDigit b v → a ≡ b
    by_cases a b v (numeral l h x) (numeral m g y) = omega arith
    by_cases a b v (numeral l h x) (letter m g y) = absurd (omega arith)
    by_cases a b v (letter l h x) (numeral m g y) = absurd (omega arith)
    by_cases a b v (letter l h x) (letter m g y) = omega arith

-- what the parts of a pair were
pair_parts : (a b i byte : ℕ) → pair_value a b i ≡ Ok byte
    → (h : ℕ) × ((l : ℕ) × ((hex_digit_value a ≡ Some h) × ((hex_digit_value b ≡ Some l) × (h * 16 + l ≡ byte))))
pair_parts a b i byte e = by_parts (hex_digit_value a) (hex_digit_value b) e
  where
    by_parts : (o p : Option ℕ) → (digit_or_error a i o >>= (λ h. digit_or_error b (i + 1) p >>= (λ l. Ok (h * 16 + l)))) ≡ Ok byte
        → (h : ℕ) × ((l : ℕ) × ((o ≡ Some h) × ((p ≡ Some l) × (h * 16 + l ≡ byte))))
    by_parts None p e = absurd cc
    by_parts (Some h) None e = absurd cc
    by_parts (Some h) (Some l) e = (h, (l, (refl, (refl, cc))))

-- a step and the next
bind_parts : {A B : Type 0} (r : Result A FromHexError) (f : A → Result B FromHexError) (y : B) → (r >>= f) ≡ Ok y
    → (x : A) × ((r ≡ Ok x) × (f x ≡ Ok y))
bind_parts (Ok x) f y e = (x, (refl, e))
bind_parts (Err d) f y e = absurd cc

-- a value of a digit is small
small_digit : (c v : ℕ) → hex_digit_value c ≡ Some v → v < 16
small_digit c v e = grind arith

-- what was read is what is written of its bytes
encode-decode : (i : ℕ) (word bytes : List ℕ) → list_any is_ascii_uppercase word ≡ false → decode_pairs i word ≡ Ok bytes
    → word ≡ encode_lower bytes
unfolding decode_pairs encode_with
encode-decode i [] bytes none e = let same : [] ≡ bytes = cc in ap encode_lower same
encode-decode i (a ∷ []) bytes none e = absurd cc
encode-decode i (a ∷ b ∷ rest) bytes none e =
    let (byte, (pair, more)) = bind_parts (pair_value a b i) (λ x. decode_pairs (i + 2) rest >>= (λ xs. Ok (x ∷ xs))) bytes e in
    let (left, (decoded, same)) = bind_parts (decode_pairs (i + 2) rest) (λ xs. Ok (byte ∷ xs)) bytes more in
    let (h, (l, (high, (low, value)))) = pair_parts a b i byte pair in
    let first = or_parts (is_ascii_uppercase a) (list_any is_ascii_uppercase (b ∷ rest)) none in
    let second = or_parts (is_ascii_uppercase b) (list_any is_ascii_uppercase rest) first.1 in
    let h_small = small_digit a h high in
    let l_small = small_digit b l low in
    let upper : byte / 16 ≡ h = omega (arith, h_small, l_small) in
    let lower : byte % 16 ≡ l = omega (arith, h_small, l_small) in
    let is_a : a ≡ slice_index lower_digits h =
    same_digit a (slice_index lower_digits h) h high (IsDigits-lower_digits h h_small) first.0 (lower_at h) in
    let is_b : b ≡ slice_index lower_digits l =
    same_digit b (slice_index lower_digits l) l low (IsDigits-lower_digits l l_small) second.0 (lower_at l) in
    let tails : rest ≡ encode_lower left = encode-decode (i + 2) rest left second.1 decoded in
    let whole : byte ∷ left ≡ bytes = cc in
    let spelled : a ∷ b ∷ rest ≡ slice_index lower_digits (byte / 16) ∷ slice_index lower_digits (byte % 16) ∷ encode_lower left =
    rw (upper, lower) cc in
    spelled ∙ ap encode_lower whole

-- what was read is their text, and they are bytes
pub hex_of-sound : (word bytes : List ℕ) → hex_of word ≡ Some bytes → (word ≡ encode_lower bytes) × AllByRecursion (λ b. b < 256) bytes
unfolding hex_of
hex_of-sound word bytes e =
    let (lower, decoded) = unless_parts (list_any is_ascii_uppercase word) (result_ok (decode_of word)) bytes e in
    let ok : decode_of word ≡ Ok bytes = was_ok (decode_of word) bytes decoded in
    let facts = decode_of-ok word bytes ok in
    (encode-decode 0 word bytes lower (sym (decode_of-even word facts.0) ∙ ok), bytes_each bytes facts.3)
  where
    unless_parts : (t : Bool) (o : Option (List ℕ)) (bs : List ℕ) → cond t None o ≡ Some bs → (t ≡ false) × (o ≡ Some bs)
    unless_parts true o bs h = absurd cc
    unless_parts false o bs h = (refl, h)

    was_ok : (r : Result (List ℕ) FromHexError) (bs : List ℕ) → result_ok r ≡ Some bs → r ≡ Ok bs
    was_ok (Ok x) bs h = cc
    was_ok (Err x) bs h = absurd cc

-- the text of bytes is a word
pub IsWord-encode_lower : (bytes : List ℕ) → AllByRecursion (λ b. b < 256) bytes → IsWord (encode_lower bytes)
IsWord-encode_lower bytes small =
    let digits = (decode_of-ok (encode_lower bytes) bytes (decode_of-encode_lower bytes (bytes_at bytes small))).1 in
    All-weaker (λ c. is_hex_digit c ≡ true) IsVisible visible_hex (encode_lower bytes) digits
  where
    visible_hex : (c : ℕ) → is_hex_digit c ≡ true → IsVisible c
    visible_hex c e = (grind (arith, nat_tests), grind (arith, nat_tests))
