-- A picture as the text of an SVG document.
use Rattle.std.specs.Prelude.{ℕ, ◌+◌, ◌-◌, List, [], ◌∷◌, codes, decimal, Option, Some, None}
use Rattle.std.specs.List.{flat_map}
use Rattle.ledger_model.specs.declared.version.Version.{Version}
use Rattle.ledger_model.specs.declared.version.Version.TheVariants.{One, Two}
use Rattle.run_picture.specs.declared.picture.Picture.{Picture}
use Rattle.run_picture.specs.declared.document.TheConstants.{STYLE, LEGEND}
use Rattle.run_picture.specs.declared.layout.Layout.{Layout}
use Rattle.run_picture.specs.Xml.{concatenated}
use Rattle.run_picture.specs.Layouts.{layout_of, width_of, bottom_of, picture_height}
use Rattle.run_picture.specs.Shapes.{name_text, word_text}
use Rattle.run_picture.specs.Axes.{axis_rows_from, columns_from}
use Rattle.run_picture.specs.Arrows.{sent_text, arrival_text}
use Rattle.run_picture.specs.Marks.{marks_from}

-- the start of the document, with its size
abbrev pub open_text : ℕ → ℕ → List ℕ
open_text w h =
    concatenated (codes "<svg xmlns=\"http://www.w3.org/2000/svg\" viewBox=\"0 0 " ∷ decimal w ∷ codes " " ∷ decimal h ∷ codes "\" width=\"" ∷
    decimal w
    ∷ codes "\" height=\"" ∷ decimal h ∷ codes "\">\n" ∷ [])

-- which rounds the picture shows, and of how many
abbrev pub part_words : ℕ → ℕ → ℕ → List ℕ
part_words first last opened =
    concatenated (codes "rounds " ∷ decimal first ∷ codes " to " ∷ decimal last ∷ codes " of " ∷ decimal opened ∷ [])

-- the version of the frames, unless it is the first
abbrev pub version_words : Version → List ℕ
version_words One = []
version_words Two = codes ", frames of version 2"

-- the height that the picture shows
abbrev pub height_text : Option ℕ → List ℕ
height_text (Some h) = name_text 8 56 (codes "height") h
height_text None = word_text 8 56 (codes "all heights")

-- which rounds the picture shows, and of how many, as names
abbrev pub part_names : ℕ → ℕ → ℕ → List ℕ
part_names first last opened =
    concatenated (name_text 8 14 (codes "rounds") first ∷ name_text 8 28 (codes "to") last ∷ name_text 8 42 (codes "of") opened ∷ [])

-- the corner: which part of a run the picture shows
abbrev pub corner_text : Layout → Option ℕ → List ℕ
corner_text l h =
    concatenated (codes "<g><title>" ∷ part_words l.first l.last l.opened ∷ version_words l.config.frames ∷ codes "</title>"
    ∷ part_names l.first l.last l.opened ∷ height_text h ∷ codes "</g>\n" ∷ [])

-- the head of the document, in this style
abbrev pub document_head : List ℕ → Layout → Option ℕ → List ℕ
document_head style l h = concatenated (open_text (width_of l) (picture_height l) ∷ style ∷ corner_text l h ∷ [])

-- the start of the legend, below the last row
abbrev pub shift_text : ℕ → List ℕ
shift_text bottom = concatenated (codes "<g transform=\"translate(8 " ∷ decimal bottom ∷ codes ")\">\n" ∷ [])

-- the legend and the end of the document
abbrev pub foot_text : List ℕ → ℕ → List ℕ
foot_text legend bottom = concatenated (shift_text bottom ∷ legend ∷ codes "</g>\n</svg>\n" ∷ [])

-- the frames that are sent, and those that are delivered
abbrev pub frames_text : Layout → Picture → List ℕ
frames_text l p = concatenated (flat_map (sent_text l) p.sent.items ∷ flat_map (arrival_text l p.sent.items) p.arrivals.items ∷ [])

-- the elements of the picture
abbrev pub elements_text : Layout → Picture → List ℕ
elements_text l p =
    concatenated (axis_rows_from l p.rounds.items 0 l.config.replicas ∷ columns_from l l.first (l.last + 1 - l.first) ∷ frames_text l p
    ∷ marks_from l None 0 p.facts.items ∷ marks_from l None 0 p.locks.items ∷ marks_from l None 0 p.decisions.items
    ∷ marks_from l None 0 p.retired.items ∷ [])

-- the picture as a document, in this style and with this legend
abbrev pub svg_text : List ℕ → List ℕ → Picture → List ℕ
svg_text style legend p =
    concatenated (document_head style (layout_of p) p.part.height ∷ elements_text (layout_of p) p ∷ foot_text legend (bottom_of (layout_of p)) ∷ [])

-- the picture as a document
unfoldable pub picture_text : Picture → List ℕ
picture_text p = svg_text STYLE.now LEGEND.now p
