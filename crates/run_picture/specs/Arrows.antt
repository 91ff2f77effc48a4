-- Sent frames, and the arrows of delivered frames.
use Rattle.std.specs.Prelude.{ℕ, List, [], ◌∷◌, codes, Option, Some, None, Result, Ok, Err, slice_get, option_and_then}
use Rattle.ledger_model.specs.declared.reply.Ignored.{Ignored}
use Rattle.ledger_model.specs.declared.statement.Statement.{Statement}
use Rattle.ledger_model.specs.declared.statement.Statement.TheVariants as statement
use Rattle.ledger_model.specs.Notes.{signer_of}
use Rattle.run_picture.specs.declared.sent_frames.SentFrame.{SentFrame}
use Rattle.run_picture.specs.declared.deliveries.Delivery.{Delivery}
use Rattle.run_picture.specs.declared.sources.Arrival.{Arrival}
use Rattle.run_picture.specs.declared.layout.Layout.{Layout}
use Rattle.run_picture.specs.Xml.{concatenated}
use Rattle.run_picture.specs.Layouts.{start_x, end_x, statement_y}
use Rattle.run_picture.specs.Words.{statement_words, place_words, addressee_words, answer_words, source_words}
use Rattle.run_picture.specs.Shapes.{shape_text, path_line}

-- the class of a frame: the kind of its statement
abbrev pub kind_class : Option Statement → List ℕ
kind_class None = codes "bytes"
kind_class (Some (statement.Report r)) = codes "report"
kind_class (Some (statement.Lock l)) = codes "lock"
kind_class (Some (statement.Ack a)) = codes "ack"

-- the class of an answer
abbrev pub answer_class : Result (Unit {0}) Ignored → List ℕ
answer_class (Ok u) = codes " accepted"
answer_class (Err cause) = codes " ignored"

-- a sent frame: a dot where it begins
abbrev pub sent_text : Layout → SentFrame → List ℕ
sent_text l s =
    concatenated (codes "<g><title>" ∷ statement_words s.statement ∷ codes "; sent" ∷ addressee_words s.addressee
    ∷ place_words s.at.replica s.at.round s.at.entry ∷ codes "</title>"
    ∷ shape_text (codes "dot") (start_x l s) (statement_y s.at.replica s.statement) (codes "m-2 0a2 2 0 1 0 4 0a2 2 0 1 0 -4 0")
    ∷ codes "</g>\n" ∷ [])

-- the arrow from a sent frame to where it is delivered
abbrev pub arrow_text : Layout → SentFrame → Delivery → List ℕ
arrow_text l s d =
    shape_text (concatenated (codes "arrow " ∷ kind_class d.statement ∷ answer_class d.answer ∷ [])) (start_x l s)
    (statement_y s.at.replica s.statement)
    (path_line (end_x l d.at s.at.replica) (statement_y d.at.replica d.statement))

-- the replica that a frame from outside the picture claims to be of
abbrev pub stub_from : Option Statement → ℕ
stub_from (Some s) = signer_of s
stub_from None = 15

-- the end of an arrow, of a frame from outside the picture
abbrev pub stub_text : Layout → Delivery → List ℕ
stub_text l d =
    shape_text (concatenated (codes "stub " ∷ kind_class d.statement ∷ answer_class d.answer ∷ [])) (end_x l d.at (stub_from d.statement))
    (statement_y d.at.replica d.statement) (codes "m-8 -22l8 22")

-- the way of a delivered frame
abbrev pub way_text : Layout → Option SentFrame → Delivery → List ℕ
way_text l (Some s) d = arrow_text l s d
way_text l None d = stub_text l d

-- the sent frame that a delivery comes from
abbrev pub source_of : List SentFrame → Arrival → Option SentFrame
source_of sent a = option_and_then (λ i. slice_get sent i) a.source

-- a delivered frame: an arrow
abbrev pub arrival_text : Layout → List SentFrame → Arrival → List ℕ
arrival_text l sent a =
    concatenated (codes "<g><title>" ∷ statement_words a.delivery.statement ∷ source_words (source_of sent a) ∷ answer_words a.delivery.answer
    ∷ place_words a.delivery.at.replica a.delivery.at.round a.delivery.at.entry ∷ codes "</title>"
    ∷ way_text l (source_of sent a) a.delivery ∷ codes "</g>\n" ∷ [])
