-- Numbers are read from their decimal digits.
use Rattle.std.proofs.Common.{◌≡◌, ℕ, ◌<◌, ◌≤◌, ◌^◌, Bool, true, false, cond, List, [], ◌∷◌, IsTrue, refl, arith}
use Rattle.std.specs.Prelude.{nat_lt, ◌&&◌, Option, Some, None, IfSome, IfNone, IsUtf8}
use Rattle.std.specs.Char.{is_ascii}
use Rattle.std.specs.List.{list_all}
use Rattle.std.specs.Str.Parse.{digits_value}
use Rattle.std.proofs.lemmas.Bool.{and_parts}
use Rattle.std.proofs.lemmas.Bool.Decides.{nat_tests}
use Rattle.plain_text.specs.Numbers.{is_digit, is_decimal}
use Rattle.http_messages.specs.Values.{decimal_number}
use Rattle.http_messages.proofs.TextLemmas.{text_of_ascii}

-- a reader of decimal digits reads them as this one does
pub number_of-is : (digits : List ℕ) (r : Option ℕ) → IfSome r (λ n. n < 2 ^ 32)
    → IfSome r (λ n. IsTrue (is_decimal digits) × (digits_value 10 digits ≡ n))
    → IfNone r (IsTrue (is_decimal digits) → 2 ^ 32 ≤ digits_value 10 digits) → r ≡ decimal_number digits
unfolding decimal_number
number_of-is digits (Some n) small value none =
    let decimal : is_decimal digits ≡ true = value.0 in
    let is : digits_value 10 digits ≡ n = value.1 in
    let fits : nat_lt n (2 ^ 32) ≡ true = grind (arith, nat_tests) in
    rw (decimal, is, fits) refl
number_of-is digits None small value none = by_decimal (is_decimal digits) refl
  where
    by_decimal : (t : Bool) → is_decimal digits ≡ t
        → None ≡ cond (t && nat_lt (digits_value 10 digits) (2 ^ 32)) (Some (digits_value 10 digits)) None
    by_decimal false is = refl
    by_decimal true is =
        let great : 2 ^ 32 ≤ digits_value 10 digits = none is in
        let over : nat_lt (digits_value 10 digits) (2 ^ 32) ≡ false = grind (arith, nat_tests) in
        rw over refl

-- decimal digits are ASCII
digits-ascii : (digits : List ℕ) → list_all is_digit digits ≡ true → list_all is_ascii digits ≡ true
digits-ascii [] h = refl
digits-ascii (b ∷ digits) h =
    let parts = and_parts (is_digit b) (list_all is_digit digits) h in
    let first : is_ascii b ≡ true = by_digit b parts.0 in
    rw (first, digits-ascii digits parts.1) refl
  where
    by_digit : (b : ℕ) → is_digit b ≡ true → is_ascii b ≡ true
    by_digit b h = grind (arith, nat_tests)

-- bytes that are no text are no number
pub number_of-no_text : (digits : List ℕ) → (IsUtf8 digits → ⊥) → None ≡ decimal_number digits
unfolding decimal_number
number_of-no_text digits not_text = by_decimal (is_decimal digits) refl
  where
    by_decimal : (t : Bool) → is_decimal digits ≡ t
        → None ≡ cond (t && nat_lt (digits_value 10 digits) (2 ^ 32)) (Some (digits_value 10 digits)) None
    by_decimal false is = refl
    by_decimal true is =
        let parts = and_parts _ (list_all is_digit digits) is in
        absurd (not_text (text_of_ascii digits (digits-ascii digits parts.1)))
