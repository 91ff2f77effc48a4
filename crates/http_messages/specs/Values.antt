-- The values of parameters: byte strings and numbers.
use Rattle.std.specs.Prelude.{ℕ, ◌-◌, ◌^◌, ◌==◌, nat_le, nat_lt, Bool, false, not, ◌&&◌, ◌||◌, List, [], ◌∷◌, length, drop, slice_index}
use Rattle.std.specs.Prelude.{slice_range, Option, Some, None, unwrap_or, if◌then◌else◌}
use Rattle.std.specs.List.{list_all}
use Rattle.std.specs.Result.{result_ok}
use Rattle.std.specs.Str.Parse.{digits_value}
use Rattle.hex.specs.Hex.{decode_of}
use Rattle.plain_text.specs.Numbers.{is_decimal}

-- a byte that may be between quotes: neither a quote nor a backslash
abbrev pub is_bare : ℕ → Bool
is_bare b = not (b == 34) && not (b == 92)

-- all but the first and the last byte
abbrev pub inner_of : List ℕ → List ℕ
inner_of text = slice_range text 1 (length text - 1)

-- the text starts and ends with a quote, and has no quote or backslash between them
abbrev pub is_quoted : List ℕ → Bool
is_quoted text =
    nat_le 2 (length text) && slice_index text 0 == 34 && slice_index text (length text - 1) == 34 && list_all is_bare (inner_of text)

-- what is between the quotes, if the text is quoted
unfoldable pub quoted_of : List ℕ → Option (List ℕ)
quoted_of text = if is_quoted text then Some (inner_of text) else None

-- the bytes that hexadecimal digits of either case encode: two digits a byte
abbrev pub hexadecimal_of : List ℕ → Option (List ℕ)
hexadecimal_of digits = result_ok (decode_of digits)

-- the text starts with `0x` or `0X`
abbrev pub has_hex_prefix : List ℕ → Bool
has_hex_prefix [] = false
has_hex_prefix (a ∷ []) = false
has_hex_prefix (a ∷ b ∷ rest) = a == 48 && (b == 120 || b == 88)

-- the bytes that a text is: those of the hexadecimal digits after `0x` or `0X`, or those between quotes
unfoldable pub byte_string_of : List ℕ → Option (List ℕ)
byte_string_of text = if has_hex_prefix text then hexadecimal_of (drop 2 text) else quoted_of text

-- the number below 2^32 that decimal digits are; leading zeros are allowed
unfoldable pub decimal_number : List ℕ → Option ℕ
decimal_number digits = if is_decimal digits && nat_lt (digits_value 10 digits) (2 ^ 32) then Some (digits_value 10 digits) else None

-- the number below 2^32 that is between quotes, or that a text is without quotes
unfoldable pub written_number_of : List ℕ → Option ℕ
written_number_of text = decimal_number (unwrap_or (quoted_of text) text)
