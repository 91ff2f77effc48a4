-- The rows of replicas and the columns of rounds.
use Rattle.std.specs.Prelude.{ℕ, zero, suc, ◌+◌, ◌==◌, List, [], ◌∷◌, ◌++◌, codes, decimal, Option, Some, None, slice_get, if◌then◌else◌}
use Rattle.ledger_model.specs.Rounds.{phase_of, place_of, owner_of}
use Rattle.run_picture.specs.declared.layout.Layout.{Layout}
use Rattle.run_picture.specs.Xml.{concatenated}
use Rattle.run_picture.specs.Layouts.{column_x, row_y, width_of, bottom_of}
use Rattle.run_picture.specs.Shapes.{shape_text, name_text, word_text, down_text, band_text}

-- ---- replicas

-- the class of a replica's row
abbrev pub row_class : Option ℕ → List ℕ
row_class (Some n) = codes "row"
row_class None = codes "row absent"

-- a replica's number, and how many rounds it opened, if its history was handed in
abbrev pub row_words : ℕ → Option ℕ → List ℕ
row_words r (Some n) = concatenated (codes "replica " ∷ decimal r ∷ codes " opened " ∷ decimal n ∷ codes " rounds" ∷ [])
row_words r None = concatenated (codes "replica " ∷ decimal r ∷ codes ": no history was handed in" ∷ [])

-- a replica's row
abbrev pub row_text : Layout → ℕ → Option ℕ → List ℕ
row_text l r opened =
    concatenated (codes "<g><title>" ∷ row_words r opened ∷ codes "</title>" ∷ shape_text (row_class opened) 0 (row_y r) (band_text (width_of l))
    ∷ name_text 8 (row_y r + 16) (codes "replica") r ∷ codes "</g>\n" ∷ [])

-- the number, if there is one
abbrev pub known_number : Option (Option ℕ) → Option ℕ
known_number (Some o) = o
known_number None = None

-- the number of rounds that replica r opened, if its history was handed in
abbrev pub row_of : List (Option ℕ) → ℕ → Option ℕ
row_of rounds r = known_number (slice_get rounds r)

-- the rows of n replicas, from replica r on
abbrev pub axis_rows_from : Layout → List (Option ℕ) → ℕ → ℕ → List ℕ
axis_rows_from l rounds r zero = []
axis_rows_from l rounds r (suc n) = row_text l r (row_of rounds r) ++ axis_rows_from l rounds (r + 1) n

-- ---- rounds

-- the word for a place
abbrev pub place_word : ℕ → List ℕ
place_word p =
    if p == 1 then codes "report" else if p == 2 then codes "lock" else if p == 3 then codes "acknowledge" else codes "release"

-- what a round is
abbrev pub round_words : ℕ → List ℕ → ℕ → ℕ → List ℕ
round_words c place k owner =
    concatenated (codes "round " ∷ decimal c ∷ codes ": " ∷ place ∷ codes ", in phase " ∷ decimal k ∷ codes " of replica " ∷ decimal owner ∷ [])

-- the names above a round
abbrev pub names_text : ℕ → ℕ → List ℕ → ℕ → ℕ → List ℕ
names_text x c place k owner =
    concatenated (name_text (x + 4) 14 (codes "phase") k ∷ name_text (x + 4) 28 (codes "owner") owner ∷ name_text (x + 4) 42 (codes "round") c
    ∷ word_text (x + 4) 56 place ∷ [])

-- the line at which a round begins, and the cell of its owner
abbrev pub grid_text : Layout → ℕ → List ℕ → ℕ → List ℕ
grid_text l x place owner =
    concatenated (shape_text (codes "owner") x (row_y owner) (codes "h84v112h-84z") ∷ shape_text place x 4 (down_text (bottom_of l)) ∷ [])

-- a round whose place has this word, and whose phase k has this owner
abbrev pub round_axis : Layout → ℕ → List ℕ → ℕ → ℕ → List ℕ
round_axis l c place k owner =
    concatenated (codes "<g><title>" ∷ round_words c place k owner ∷ codes "</title>" ∷ grid_text l (column_x l c) place owner
    ∷ names_text (column_x l c) c place k owner ∷ codes "</g>\n" ∷ [])

-- a round from 1 on
abbrev pub round_text : Layout → ℕ → List ℕ
round_text l c = round_axis l c (place_word (place_of c)) (phase_of c) (owner_of l.config (phase_of c))

-- the time before the first round
abbrev pub start_text : Layout → List ℕ
start_text l =
    concatenated (codes "<g><title>before round 1</title>" ∷ shape_text (codes "start") (column_x l 0) 4 (down_text (bottom_of l))
    ∷ word_text (column_x l 0 + 4) 42 (codes "start") ∷ codes "</g>\n" ∷ [])

-- a round, or the time before the first
abbrev pub column_text : Layout → ℕ → List ℕ
column_text l c = if c == 0 then start_text l else round_text l c

-- n rounds, from round c on
abbrev pub columns_from : Layout → ℕ → ℕ → List ℕ
columns_from l c zero = []
columns_from l c (suc n) = column_text l c ++ columns_from l (c + 1) n
