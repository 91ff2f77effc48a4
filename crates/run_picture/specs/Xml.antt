-- Pieces of an SVG text.
use Rattle.std.specs.Prelude.{ℕ, ◌==◌, List, [], ◌∷◌, ◌++◌, codes, if◌then◌else◌}
use Rattle.std.specs.List.{flat_map}
use Rattle.ledger_model.specs.Values.{Value}
use Rattle.plain_text.specs.Transactions.{bytes_text}

-- the pieces, one after another
abbrev pub concatenated : List (List ℕ) → List ℕ
concatenated [] = []
concatenated (p ∷ []) = p
concatenated (p ∷ q ∷ ps) = p ++ concatenated (q ∷ ps)

-- a byte as XML reads it in a text: `<` and `&` have names
abbrev pub xml_byte : ℕ → List ℕ
xml_byte b = if b == 60 then codes "&lt;" else if b == 38 then codes "&amp;" else b ∷ []

-- a text as XML reads it
abbrev pub xml_text : List ℕ → List ℕ
xml_text text = flat_map xml_byte text

-- a transaction in its printed form
abbrev pub tx_xml : List ℕ → List ℕ
tx_xml tx = xml_text (bytes_text tx)

-- a value: its transactions in brackets, separated by commas
abbrev pub value_xml : Value → List ℕ
value_xml [] = codes "[]"
value_xml (t ∷ ts) = concatenated (codes "[" ∷ tx_xml t ∷ flat_map (λ t. codes "," ++ tx_xml t) ts ∷ codes "]" ∷ [])

-- values, each preceded by a space
abbrev pub values_text : List Value → List ℕ
values_text vs = flat_map (λ v. codes " " ++ value_xml v) vs
