-- The printed form of transactions, and of batches.
use Rattle.std.specs.Prelude.{◌≡◌, ◌≢◌, ℕ, ◌+◌, ◌-◌, ◌*◌, ◌/◌, ◌%◌, ◌==◌, nat_le, false, Bool, not, ◌&&◌, List, [], ◌∷◌, ◌++◌, map, codes, Option, Some, None}
use Rattle.std.specs.Prelude.{if◌then◌else◌}
use Rattle.std.specs.Fmt.{digit_glyph}
use Rattle.std.specs.List.{flat_map, join_with_byte}
use Rattle.plain_text.specs.declared.spelling_fault.SpellingFault.{SpellingFault}
use Rattle.plain_text.specs.declared.spelling_fault.SpellingFault.TheVariants as fault

-- a byte that stands for itself in a transaction: visible, and no comma, bracket or backslash
abbrev pub is_plain : ℕ → Bool
is_plain b = nat_le 0x21 b && nat_le b 0x7e && not (b == 0x2c) && not (b == 0x5b) && not (b == 0x5c) && not (b == 0x5d)

-- a lower case hexadecimal digit
abbrev pub nibble : ℕ → Option ℕ
nibble b = if nat_le 48 b && nat_le b 57 then Some (b - 48) else if nat_le 97 b && nat_le b 102 then Some (b - 87) else None

-- the byte that two digits encode, unless it stands for itself
abbrev pub byte_of : Option ℕ → Option ℕ → Option ℕ
byte_of (Some high) (Some low) = if is_plain (16 * high + low) then None else Some (16 * high + low)
byte_of (Some high) None = None
byte_of None low = None

-- the byte, followed by what comes after it
abbrev pub before : Option ℕ → List ℕ → Option (ℕ × List ℕ)
before (Some b) rest = Some (b, rest)
before None rest = None

-- the byte at the start of a text, plain or as a backslash with two digits, and the text after it
abbrev pub first_spelled_byte : List ℕ → Option (ℕ × List ℕ)
first_spelled_byte [] = None
first_spelled_byte (b ∷ []) = before (if is_plain b then Some b else None) []
first_spelled_byte (b ∷ c ∷ []) = before (if is_plain b then Some b else None) (c ∷ [])
first_spelled_byte (b ∷ c ∷ d ∷ rest) =
    if b == 0x5c then before (byte_of (nibble c) (nibble d)) rest else before (if is_plain b then Some b else None) (c ∷ d ∷ rest)

-- the text starts with these bytes in order, followed by the rest
abbrev pub ReadsTo : List ℕ → List ℕ → List ℕ → Type 0
ReadsTo text [] rest = text ≡ rest
ReadsTo text (b ∷ bytes) rest = (after : List ℕ) × ((first_spelled_byte text ≡ Some (b, after)) × ReadsTo after bytes rest)

-- the text encodes these bytes, in order
abbrev pub StandsFor : List ℕ → List ℕ → Type 0
StandsFor text [] = text ≡ []
StandsFor text (b ∷ bytes) = (rest : List ℕ) × ((first_spelled_byte text ≡ Some (b, rest)) × StandsFor rest bytes)

-- what is wrong with a backslash and two digits
abbrev pub escape_fault : Option ℕ → Option ℕ → SpellingFault
escape_fault (Some high) (Some low) = fault.NeedlessEscape (16 * high + low)
escape_fault (Some high) None = fault.BadEscape
escape_fault None low = fault.BadEscape

-- what is wrong at the start of a text that starts with no byte
abbrev pub spelling_fault_at : List ℕ → SpellingFault
spelling_fault_at [] = fault.BadEscape
spelling_fault_at (b ∷ []) = if b == 0x5c then fault.BadEscape else fault.Bare b
spelling_fault_at (b ∷ c ∷ []) = if b == 0x5c then fault.BadEscape else fault.Bare b
spelling_fault_at (b ∷ c ∷ d ∷ rest) = if b == 0x5c then escape_fault (nibble c) (nibble d) else fault.Bare b

-- the text encodes nothing: after some bytes it continues with no byte, with this fault
pub record Misspells (text : List ℕ) (why : SpellingFault) : Type 0 where
  pub read : List ℕ
  pub rest : List ℕ
  pub reads : ReadsTo text read rest
  pub stops : first_spelled_byte rest ≡ None
  pub some : rest ≢ []
  pub told : why ≡ spelling_fault_at rest

-- a byte in its printed form: itself, or a backslash and its two lower-case hexadecimal digits
unfoldable pub byte_text : ℕ → List ℕ
byte_text b = if is_plain b then b ∷ [] else 0x5c ∷ digit_glyph false (b / 16) ∷ digit_glyph false (b % 16) ∷ []

-- bytes in their printed form
unfoldable pub bytes_text : List ℕ → List ℕ
bytes_text bytes = flat_map byte_text bytes

-- a batch of transactions in printed form: in brackets, separated by commas
unfoldable pub batch_text : List (List ℕ) → List ℕ
batch_text batch = codes "[" ++ join_with_byte 44 (map bytes_text batch) ++ codes "]"
