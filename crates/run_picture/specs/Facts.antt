-- What a replica does at a height, as its entries and its frames show it.
use Rattle.std.specs.Prelude.{ℕ, ◌==◌, List, [], ◌∷◌, map, Option, Some, None, Ok, if◌then◌else◌}
use Rattle.std.specs.List.{flat_map}
use Rattle.ledger_model.specs.declared.event.Event.{Event}
use Rattle.ledger_model.specs.declared.event.Event.TheVariants as event
use Rattle.ledger_model.specs.declared.history.Entry.{Entry}
use Rattle.ledger_model.specs.declared.reply.Reply.{Reply}
use Rattle.ledger_model.specs.declared.reply.Reply.TheVariants as reply
use Rattle.ledger_model.specs.declared.statement.Statement.{Statement}
use Rattle.ledger_model.specs.declared.statement.Statement.TheVariants as statement
use Rattle.ledger_model.specs.Values.{Value}
use Rattle.ledger_model.specs.Rounds.{place_of, release_place}
use Rattle.ledger_model.specs.Logs.{height_of}
use Rattle.run_picture.specs.declared.part.Part.{Part}
use Rattle.run_picture.specs.declared.part.Moment.{Moment}
use Rattle.run_picture.specs.declared.entry_facts.Fact.{Fact}
use Rattle.run_picture.specs.declared.entry_facts.Fact.TheVariants as fact
use Rattle.run_picture.specs.declared.entry_facts.Mark.{Mark}
use Rattle.run_picture.specs.declared.sent_frames.SentFrame.{SentFrame}
use Rattle.run_picture.specs.Parts.{has_height, drawn_round}
use Rattle.run_picture.specs.Frames.{moment_of}

-- what a replica does at a height
abbrev pub mark_of : Moment → ℕ → Fact → Mark
mark_of m h f = record { at = m; height = h; fact = f }

-- the mark, if its round and its height are shown
abbrev pub mark_in : Part → ℕ → ℕ → Option ℕ → ℕ → Fact → List Mark
mark_in part r i None h f = []
mark_in part r i (Some c) h f = if has_height part h then mark_of (moment_of r i c) h f ∷ [] else []

-- ---- what entries show

-- A height is opened by an accepted proposal, and a block is run by an execution. The replica's round is c, if it is shown.
abbrev pub facts_of : Part → ℕ → ℕ → Option ℕ → Event → Reply → List Mark
facts_of part r i c (event.Propose h) (reply.Proposed (Ok v)) = mark_in part r i c h (fact.Opens v)
facts_of part r i c _ (reply.Executed (Ok block)) = mark_in part r i c block.height fact.Runs
facts_of part r i c _ _ = []

-- what replica r's entry i shows
abbrev pub facts_at : Part → ℕ → ℕ → ℕ → Entry → List Mark
facts_at part r i clock e = facts_of part r i (drawn_round part clock) e.event e.reply

-- ---- what frames show

-- The values on which the sender holds locks, as a statement shows that it sends as round c opens: a report lists them, and in
-- a lock-release round each held lock is sent on.
abbrev pub held_by : ℕ → Statement → List Value
held_by c (statement.Report r) = r.locked
held_by c (statement.Lock l) = if place_of c == release_place then l.value ∷ [] else []
held_by c (statement.Ack a) = []

-- the locks that the statement shows
abbrev pub locks_shown : Moment → Statement → List Mark
locks_shown m s = map (λ v. mark_of m (height_of s) (fact.Holds v)) (held_by m.round s)

-- the locks that the frame shows, if it is a frame
abbrev pub locks_in_frame : Moment → Option Statement → List Mark
locks_in_frame m None = []
locks_in_frame m (Some s) = locks_shown m s

-- the locks that these frames show
abbrev pub locks_held : List SentFrame → List Mark
locks_held sent = flat_map (λ (s : SentFrame). locks_in_frame s.at s.statement) sent
