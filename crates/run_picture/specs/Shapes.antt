-- The shapes of a picture.
use Rattle.std.specs.Prelude.{ℕ, List, [], ◌∷◌, ◌++◌, codes, decimal}
use Rattle.run_picture.specs.Xml.{concatenated}

-- a path of this class, which starts at a point
abbrev pub shape_text : List ℕ → ℕ → ℕ → List ℕ → List ℕ
shape_text class x y outline =
    concatenated (codes "<path class=\"" ∷ class ∷ codes "\" d=\"M" ∷ decimal x ∷ codes " " ∷ decimal y ∷ outline ∷ codes "\"/>" ∷ [])

-- the rest of a path, which is a line to a point
abbrev pub path_line : ℕ → ℕ → List ℕ
path_line x y = concatenated (codes "L" ∷ decimal x ∷ codes " " ∷ decimal y ∷ [])

-- a number that is shown at a point
abbrev pub label_text : ℕ → ℕ → ℕ → List ℕ
label_text x y n = concatenated (codes "<text x=\"" ∷ decimal x ∷ codes "\" y=\"" ∷ decimal y ∷ codes "\" dy=\"4\">" ∷ decimal n ∷ codes
    "</text>" ∷ [])

-- a name that is shown from a point on: a word, and a number
abbrev pub name_text : ℕ → ℕ → List ℕ → ℕ → List ℕ
name_text x y word n =
    concatenated (codes "<text class=\"name\" x=\"" ∷ decimal x ∷ codes "\" y=\"" ∷ decimal y ∷ codes "\">" ∷ word ∷ codes " " ∷ decimal n
    ∷ codes "</text>" ∷ [])

-- a word that is shown from a point on
abbrev pub word_text : ℕ → ℕ → List ℕ → List ℕ
word_text x y word =
    concatenated (codes "<text class=\"name\" x=\"" ∷ decimal x ∷ codes "\" y=\"" ∷ decimal y ∷ codes "\">" ∷ word ∷ codes "</text>" ∷ [])

-- the rest of a path, which is a line down or up
abbrev pub down_text : ℕ → List ℕ
down_text y = codes "V" ++ decimal y

-- the rest of a path, which is a rectangle of this width
abbrev pub band_text : ℕ → List ℕ
band_text w = concatenated (codes "h" ∷ decimal w ∷ codes "v112h-" ∷ decimal w ∷ codes "z" ∷ [])
