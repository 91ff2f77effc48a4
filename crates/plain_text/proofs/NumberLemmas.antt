-- Numbers in their printed form.
use Rattle.std.proofs.Common.{◌≡◌, ◌∙◌, ℕ, ◌<◌, ◌≤◌, ◌^◌, zero, suc, true, false, List, [], ◌∷◌, length, get_or, IsTrue, refl, sym, ap}
use Rattle.std.proofs.Common.{subst, eq-eqb, rules, arith}
use Rattle.std.specs.Prelude.{Result, Ok, Err, Option, Some, None, IfSome, IfNone, not, ◌==◌}
use Rattle.std.specs.Result.{result_ok}
use Rattle.std.specs.List.{list_all}
use Rattle.std.specs.Str.Parse.{ParsesUnsigned, digits_value}
use Rattle.std.specs.Fmt.{decimal}
use Rattle.std.proofs.lemmas.Bool.{and_parts, ne_eqb}
use Rattle.std.proofs.lemmas.Fmt.{decimal-digits_value, decimal_digit, first_decimal, digits_decimal, decimal_nonempty}
use Rattle.std.proofs.lemmas.Fmt.{digits_value-decimal, decimal_injective}
use Rattle.std.proofs.lemmas.Str.Parse.{IsDigitsTest, IsNumeralModel, numerals_by_value, parse_digits}
use Rattle.plain_text.specs.Numbers.{is_digit, is_decimal, has_needless_zero, number_text}

is_test : IsDigitsTest (λ ds. list_all is_digit ds ≡ true)
is_test = search rules

some_length : (n : ℕ) → not (n == 0) ≡ true → 0 < n
some_length zero h = absurd cc
some_length (suc n) h = omega (arith)

-- a decimal text that is no number of 32 bits is too large for one
pub too_large : {E : Type 0} (t : List ℕ) (r : Result ℕ E) → ParsesUnsigned 32 10 t r
    → IfNone (result_ok r) (IsTrue (is_decimal t) → 4294967296 ≤ digits_value 10 t)
too_large t (Ok n) h = tt
too_large t (Err e) h = λ yes.
    let parts = and_parts (not (length t == 0)) (list_all is_digit t) yes in
    let refused = parse_digits (numerals_by_value (λ ds. list_all is_digit ds ≡ true) is_test) 32 t (Err e) h parts.1 in
    let no : digits_value 10 t < 4294967296 → ⊥ = λ small. refused (some_length (length t) parts.0, small) in
    omega (arith, no)

own : IsNumeralModel (λ ds. list_all is_digit ds ≡ true) (digits_value 10)
own = numerals_by_value (λ ds. list_all is_digit ds ≡ true) is_test

-- a zero at the head stands alone
alone : (t : List ℕ) → has_needless_zero t ≡ false → get_or t 0 0 ≡ 48 → 0 < length t → length t ≡ 1
alone [] bare is_zero some = absurd (omega arith)
alone (b ∷ []) bare is_zero some = refl
alone (b ∷ c ∷ t) bare is_zero some = let bad : true ≡ false = sym (eq-eqb b 48 is_zero) ∙ bare in absurd cc

-- decimal digits without needless zeros are the text of their value
pub number_text_of : (t : List ℕ) (n : ℕ) → has_needless_zero t ≡ false → IsTrue (is_decimal t) → digits_value 10 t ≡ n → n < 2 ^ 32
    → t ≡ number_text n
unfolding number_text
number_text_of t n bare is value small =
    let parts = and_parts (not (length t == 0)) (list_all is_digit t) is in
    let some : 0 < length t = some_length (length t) parts.0 in
    let fits : digits_value 10 t < 2 ^ 64 = omega arith in
    let same : decimal (digits_value 10 t) ≡ t = decimal-digits_value own t parts.1 some (λ is_zero. alone t bare is_zero some) fits in
    sym same ∙ ap decimal value

-- the text of a number has no needless zero
pub number_text-bare : (n : ℕ) → n < 2 ^ 32 → has_needless_zero (number_text n) ≡ false
unfolding number_text
number_text-bare n small = by_case n small (decimal n) refl
  where
    by_case : (n : ℕ) → n < 2 ^ 32 → (t : List ℕ) → decimal n ≡ t → has_needless_zero t ≡ false
    by_case n small [] e = refl
    by_case n small (b ∷ []) e = refl
    by_case zero small (b ∷ c ∷ t) e = let bad : decimal 0 ≡ b ∷ c ∷ t = e in let one : decimal 0 ≡ 48 ∷ [] =
        decimal_digit 0 (omega arith) in absurd cc
    by_case (suc n) small (b ∷ c ∷ t) e =
        let high : 48 < get_or (decimal (suc n)) 0 0 = first_decimal (suc n) (omega arith) (omega arith) in
        let first : 48 < b = subst (λ (r : List ℕ). 48 < get_or r 0 0) e high in
        ne_eqb b 48 (omega arith)

-- it is decimal
pub is_decimal-number_text : (n : ℕ) → n < 2 ^ 32 → IsTrue (is_decimal (number_text n))
unfolding number_text
is_decimal-number_text n small =
    let digits = digits_decimal own n (omega arith) in
    let some = decimal_nonempty n (omega arith) in
    grind (arith, digits, some)

-- it has that value
pub digits_value-number_text : (n : ℕ) → n < 2 ^ 32 → digits_value 10 (number_text n) ≡ n
unfolding number_text
digits_value-number_text n small = digits_value-decimal own n (omega arith)

-- it is the text of no other number
pub number_text-injective : (m n : ℕ) → m < 2 ^ 32 → n < 2 ^ 32 → number_text m ≡ number_text n → m ≡ n
unfolding number_text
number_text-injective m n fits small e = decimal_injective m n (omega arith) (omega arith) e

-- the decimal digits of a number below 2^32 were read
pub read_number : (t : List ℕ) (n : ℕ) (r : Option ℕ) → n < 2 ^ 32 → t ≡ number_text n
    → IfSome r (λ m. IsTrue (is_decimal t) × (digits_value 10 t ≡ m)) → IfNone r (IsTrue (is_decimal t) → 2 ^ 32 ≤ digits_value 10 t)
    → r ≡ Some n
read_number t n (Some m) small e value none =
    let is : digits_value 10 t ≡ n = ap (digits_value 10) e ∙ digits_value-number_text n small in
    let same : m ≡ n = sym value.1 ∙ is in
    ap Some same
read_number t n None small e value none =
    let is : digits_value 10 t ≡ n = ap (digits_value 10) e ∙ digits_value-number_text n small in
    let high : 2 ^ 32 ≤ digits_value 10 t = none (subst (λ (r : List ℕ). IsTrue (is_decimal r)) (sym e) (is_decimal-number_text n small)) in
    absurd (omega arith)

-- what was read is spelled without needless zeros
pub number_value : (t : List ℕ) (r : Option ℕ) → has_needless_zero t ≡ false → IfSome r (λ m. m < 2 ^ 32)
    → IfSome r (λ m. IsTrue (is_decimal t) × (digits_value 10 t ≡ m)) → IfSome r (λ m. t ≡ number_text m)
number_value t (Some m) bare small value = number_text_of t m bare value.0 value.1 small
number_value t None bare small value = tt
