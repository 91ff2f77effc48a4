-- TOML writes the digits of a key, and the word for an application, between quotes as they are.
use Rattle.std.proofs.Common.{◌≡◌, ℕ, ◌/◌, ◌%◌, ◌<◌, Bool, true, false, ◌&&◌, not, ◌==◌, List, [], ◌∷◌, ◌++◌, slice_index, zero, suc, refl, ap, inl, inr, arith}
use Rattle.std.specs.List.{list_all, list_any}
use Rattle.std.proofs.lemmas.Bool.{and_parts, cases_lt, false≢true}
use Rattle.hex.specs.Hex.{IsBytes, encode_lower, encode_with, lower_digits}
use Rattle.toml_writer.specs.Text.{encoding_of, escaped, is_control, needs_escape, quotes_after, string_text}
use Rattle.cluster_files.specs.FileTexts.{in_quotes}

-- A byte that stands for itself in quotes: no control character, and no backslash, quote or line feed.
abbrev pub is_plain : ℕ → Bool
is_plain c = not (is_control c) && (not (c == 92) && (not (c == 34) && (not (c == 10) && not (needs_escape false 0 c))))

-- the first n digits are plain
abbrev plain_below : List ℕ → ℕ → Bool
plain_below t zero = true
plain_below t (suc n) = is_plain (slice_index t n) && plain_below t n

plain_at : (t : List ℕ) (n k : ℕ) → plain_below t n ≡ true → k < n → is_plain (slice_index t k) ≡ true
plain_at t zero k h lt = absurd (omega arith)
plain_at t (suc n) k h lt =
    let parts = and_parts (is_plain (slice_index t n)) (plain_below t n) h in
    elim (cases_lt k n) [
      | inl below ↦ plain_at t n k parts.1 below
      | inr top ↦
          let e : k ≡ n = omega arith in
          rw e parts.0
    ]

all_digits : plain_below lower_digits 16 ≡ true
unfolding needs_escape
all_digits = refl

not_true : (b : Bool) → not b ≡ true → b ≡ false
not_true true h = absurd (false≢true h)
not_true false h = refl

-- the digits of bytes are plain
pub plain_digits : (bytes : List ℕ) → IsBytes bytes → list_all is_plain (encode_lower bytes) ≡ true
unfolding encode_with
plain_digits [] each = refl
plain_digits (b ∷ bytes) each =
    let small : b < 256 = each 0 in
    let high : b / 16 < 16 = omega arith in
    let low : b % 16 < 16 = omega arith in
    rw (plain_at lower_digits 16 (b / 16) all_digits high, plain_at lower_digits 16 (b % 16) all_digits low)
    (plain_digits bytes (λ i. each (suc i)))

-- what no byte of a plain text is
none_of : (test : ℕ → Bool) → ((c : ℕ) → is_plain c ≡ true → test c ≡ false) → (s : List ℕ) → list_all is_plain s ≡ true → list_any test s ≡ false
none_of test never [] plain = refl
none_of test never (c ∷ s) plain =
    let parts = and_parts (is_plain c) (list_all is_plain s) plain in
    rw (never c parts.0) (none_of test never s parts.1)

-- the parts of the test
record Plain (c : ℕ) : Type 0 where
  control : is_control c ≡ false
  slash : (c == 92) ≡ false
  mark : (c == 34) ≡ false
  feed : (c == 10) ≡ false
  escape : needs_escape false 0 c ≡ false

plain_parts : (c : ℕ) → is_plain c ≡ true → Plain c
plain_parts c plain =
    let a = and_parts (not (is_control c)) _ plain in
    let b = and_parts (not (c == 92)) _ a.1 in
    let d = and_parts (not (c == 34)) _ b.1 in
    let e = and_parts (not (c == 10)) _ d.1 in
    record {
      control = not_true (is_control c) a.0;
      slash = not_true (c == 92) b.0;
      mark = not_true (c == 34) d.0;
      feed = not_true (c == 10) e.0;
      escape = not_true (needs_escape false 0 c) e.1;
    }

escaped-plain : (s : List ℕ) → list_all is_plain s ≡ true → escaped false 0 s ≡ s
unfolding escaped quotes_after
escaped-plain [] plain = refl
escaped-plain (c ∷ s) plain =
    let parts = and_parts (is_plain c) (list_all is_plain s) plain in
    let known = plain_parts c parts.0 in
    rw (known.escape, known.mark) (ap (λ t. c ∷ t) (escaped-plain s parts.1))

-- a plain text stands in quotes as it is
pub string_text-plain : (s : List ℕ) → list_all is_plain s ≡ true → string_text s ≡ in_quotes s
unfolding string_text encoding_of
string_text-plain s plain =
    let control = none_of is_control (λ c h. (plain_parts c h).control) s plain in
    let slash = none_of (λ x. x == 92) (λ c h. (plain_parts c h).slash) s plain in
    let mark = none_of (λ x. x == 34) (λ c h. (plain_parts c h).mark) s plain in
    let feed = none_of (λ x. x == 10) (λ c h. (plain_parts c h).feed) s plain in
    rw (control, slash, mark, feed) (ap (λ t. 34 ∷ t ++ 34 ∷ []) (escaped-plain s plain))
