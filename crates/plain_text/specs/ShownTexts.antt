-- How a text is shown to a person.
use Rattle.std.specs.Prelude.{ℕ, List, ◌++◌, ◌==◌, codes, if◌then◌else◌, chars, encode_utf8, false}
use Rattle.std.specs.Char.{is_control}
use Rattle.std.specs.Fmt.{digits}
use Rattle.std.specs.List.{flat_map}

-- a control character as a backslash and a letter, or as a backslash and its number in hexadecimal digits: `\n`, `\u{1b}`
abbrev pub escape_of : ℕ → List ℕ
escape_of c =
    if c == 9 then codes "\\t" else if c == 10 then codes "\\n" else if c == 13 then codes "\\r"
    else codes "\\u{" ++ digits 16 false c ++ codes "}"

-- a character as it is, unless it is a control character
unfoldable pub shown_character : ℕ → List ℕ
shown_character c = if is_control c then escape_of c else encode_utf8 c

-- the characters of a text, each as it is shown
unfoldable pub shown_text : List ℕ → List ℕ
shown_text text = flat_map shown_character (chars text)
