-- The printed form of numbers.
use Rattle.std.specs.Prelude.{ℕ, ◌==◌, nat_le, Bool, false, not, ◌&&◌, List, [], ◌∷◌, length}
use Rattle.std.specs.List.{list_all}
use Rattle.std.specs.Fmt.{decimal}

-- a decimal digit
abbrev pub is_digit : ℕ → Bool
is_digit b = nat_le 48 b && nat_le b 57

-- one digit or more, and nothing else: no sign
abbrev pub is_decimal : List ℕ → Bool
is_decimal text = not (length text == 0) && list_all is_digit text

-- the word has a leading zero that is not its only digit
abbrev pub has_needless_zero : List ℕ → Bool
has_needless_zero [] = false
has_needless_zero (b ∷ []) = false
has_needless_zero (b ∷ c ∷ rest) = b == 0x30

-- a number in its printed form: its decimal digits, without needless leading zeros
unfoldable pub number_text : ℕ → List ℕ
number_text n = decimal n
