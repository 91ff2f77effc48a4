-- What replicas do at heights, as marks.
use Rattle.std.specs.Prelude.{ℕ, ◌+◌, ◌*◌, ◌%◌, ◌==◌, Bool, ◌&&◌, List, [], ◌∷◌, ◌++◌, codes, decimal, Option, Some, None, if◌then◌else◌}
use Rattle.ledger_model.specs.Values.{Value}
use Rattle.run_picture.specs.declared.entry_facts.Fact.{Fact}
use Rattle.run_picture.specs.declared.entry_facts.Fact.TheVariants as fact
use Rattle.run_picture.specs.declared.entry_facts.Mark.{Mark}
use Rattle.run_picture.specs.declared.layout.Layout.{Layout}
use Rattle.run_picture.specs.declared.marks.Spot.{Spot}
use Rattle.run_picture.specs.Xml.{concatenated, value_xml}
use Rattle.run_picture.specs.Layouts.{column_x, lane_y}
use Rattle.run_picture.specs.Words.{place_words}
use Rattle.run_picture.specs.Shapes.{shape_text, label_text}

-- the class of a mark
abbrev pub fact_class : Fact → List ℕ
fact_class (fact.Opens v) = codes "opens"
fact_class (fact.Holds v) = codes "holds"
fact_class (fact.Decides v) = codes "decides"
fact_class fact.Runs = codes "runs"
fact_class fact.Retires = codes "retires"

-- the shape of a mark, from its middle
abbrev pub fact_outline : Fact → List ℕ
fact_outline (fact.Opens v) = codes "m-7 6l7 -13l7 13z"
fact_outline (fact.Holds v) = codes "m-5 -5h10v10h-10z"
fact_outline (fact.Decides v) = codes "m0 -9l9 9l-9 9l-9 -9z"
fact_outline fact.Runs = codes "m-7 -7h14v14h-14z"
fact_outline fact.Retires = codes "m-6 -6l12 12m0 -12l-12 12"

-- where in its round a mark is
abbrev pub fact_x : Fact → ℕ
fact_x (fact.Opens v) = 18
fact_x (fact.Holds v) = 8
fact_x (fact.Decides v) = 74
fact_x fact.Runs = 58
fact_x fact.Retires = 42

-- what is done at a height, and the value
abbrev pub value_words : ℕ → List ℕ → Value → List ℕ
value_words h word v = concatenated (codes "height " ∷ decimal h ∷ codes " " ∷ word ∷ codes " " ∷ value_xml v ∷ [])

-- what is done at a height
abbrev pub done_words : ℕ → List ℕ → List ℕ
done_words h word = concatenated (codes "height " ∷ decimal h ∷ codes " " ∷ word ∷ [])

-- what a replica does at a height
abbrev pub fact_words : Fact → ℕ → List ℕ
fact_words (fact.Opens v) h = value_words h (codes "opened with") v
fact_words (fact.Holds v) h = value_words h (codes "locked on") v
fact_words (fact.Decides v) h = value_words h (codes "decided:") v
fact_words fact.Runs h = done_words h (codes "run")
fact_words fact.Retires h = done_words h (codes "retired")

-- where a mark is that has the number k of those at one spot
abbrev pub mark_x : Layout → ℕ → Mark → ℕ
mark_x l k m = column_x l m.at.round + fact_x m.fact + 11 * k

-- a mark of height h at a point
abbrev pub mark_at : Mark → ℕ → ℕ → ℕ → List ℕ
mark_at m h x y =
    concatenated (codes "<g><title>" ∷ fact_words m.fact h ∷ place_words m.at.replica m.at.round m.at.entry ∷ codes "</title>"
    ∷ shape_text (fact_class m.fact) x y (fact_outline m.fact) ∷ label_text x y h ∷ codes "</g>\n" ∷ [])

-- a mark, which has the number k of those at one spot
abbrev pub mark_text : Layout → ℕ → Mark → List ℕ
mark_text l k m = mark_at m m.height (mark_x l k m) (lane_y m.at.replica m.height)

-- the spot of a mark
abbrev pub spot_of : Mark → Spot
spot_of m = record { replica = m.at.replica; entry = m.at.entry; height = m.height }

-- the two are one spot
abbrev pub is_same_spot : Spot → Spot → Bool
is_same_spot a b = (a.replica == b.replica) && ((a.entry == b.entry) && (a.height == b.height))

-- the number of a mark among those at its spot, after another mark with the number k
abbrev pub spread : Option Spot → ℕ → Spot → ℕ
spread None k s = 0
spread (Some b) k s = if is_same_spot b s then (k + 1) % 8 else 0

-- marks, after one at a spot with the number k
abbrev pub marks_from : Layout → Option Spot → ℕ → List Mark → List ℕ
marks_from l before k [] = []
marks_from l before k (m ∷ ms) = mark_text l (spread before k (spot_of m)) m ++ marks_from l (Some (spot_of m))
    (spread before k (spot_of m)) ms
