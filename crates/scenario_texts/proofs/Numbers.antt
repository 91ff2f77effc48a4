-- Numbers are read back from their text.
use Rattle.std.proofs.Common.{◌≡◌, ◌∙◌, ℕ, ◌<◌, ◌^◌, Bool, true, false, cond, List, refl, sym, ap, arith}
use Rattle.std.specs.Prelude.{nat_lt, not, ◌&&◌, Option, Some, None, IfSome}
use Rattle.std.specs.Str.Parse.{digits_value}
use Rattle.std.proofs.lemmas.Bool.{and_parts, ltb-true, not-true}
use Rattle.std.proofs.lemmas.Bool.Decides.{nat_tests}
use Rattle.plain_text.specs.Numbers.{is_decimal, has_needless_zero, number_text}
use Rattle.plain_text.proofs.NumberLemmas.{number_text_of, number_text-bare, is_decimal-number_text, digits_value-number_text}
use Rattle.scenario_texts.specs.Reading.{word_number}

-- a number is read
pub number_of-again : (n : ℕ) → n < 2 ^ 32 → word_number (number_text n) ≡ Some n
unfolding word_number
number_of-again n small =
    let digits : is_decimal (number_text n) ≡ true = is_decimal-number_text n small in
    let bare = number_text-bare n small in
    let value = digits_value-number_text n small in
    let fits : nat_lt (digits_value 10 (number_text n)) (2 ^ 32) ≡ true = grind (arith, nat_tests) in
    rw (digits, bare, fits, value) refl

-- what was read is a number
pub number_of-sound : (word : List ℕ) (n : ℕ) → word_number word ≡ Some n → (word ≡ number_text n) × (n < 2 ^ 32)
unfolding word_number
number_of-sound word n e = by_test (is_decimal word && not (has_needless_zero word) && nat_lt (digits_value 10 word) (2 ^ 32)) refl e
  where
    by_test : (t : Bool) → (is_decimal word && not (has_needless_zero word) && nat_lt (digits_value 10 word) (2 ^ 32)) ≡ t
        → cond t (Some (digits_value 10 word)) None ≡ Some n
        → (word ≡ number_text n) × (n < 2 ^ 32)
    by_test true is e =
        let tests = and_parts (is_decimal word && not (has_needless_zero word)) (nat_lt (digits_value 10 word) (2 ^ 32)) is in
        let words = and_parts (is_decimal word) (not (has_needless_zero word)) tests.0 in
        let value : digits_value 10 word ≡ n = cc in
        let fits : digits_value 10 word < 2 ^ 32 = ltb-true (digits_value 10 word) (2 ^ 32) tests.1 in
        let small : n < 2 ^ 32 = omega (arith, fits) in
        (number_text_of word n (not-true (has_needless_zero word) words.1) words.0 value small, small)
    by_test false is e = absurd cc

-- a reader of numbers reads them as this one does
pub number_of-is : (word : List ℕ) (r : Option ℕ) → IfSome r (λ n. n < 2 ^ 32) → IfSome r (λ n. word ≡ number_text n)
    → ((n : ℕ) → n < 2 ^ 32 → word ≡ number_text n → r ≡ Some n) → r ≡ word_number word
number_of-is word (Some n) small value found = sym (ap word_number value ∙ number_of-again n small)
number_of-is word None small value found = by_answer (word_number word) refl
  where
    by_answer : (o : Option ℕ) → word_number word ≡ o → None ≡ o
    by_answer None e = refl
    by_answer (Some n) e = let spelled = number_of-sound word n e in let bad = found n spelled.1 spelled.0 in absurd cc
