-- What the entries of a history decide.
use Rattle.std.specs.Prelude.{ℕ, List, [], ◌∷◌, ◌++◌, length, Option, Some, None}
use Rattle.std.specs.List.{filter_map, flat_map}
use Rattle.ledger_model.specs.declared.config.Config.{Config}
use Rattle.ledger_model.specs.declared.history.Entry.{Entry}
use Rattle.ledger_model.specs.Commits.{decided_at}
use Rattle.ledger_model.specs.Lawful.{clock_at}
use Rattle.ledger_model.specs.Limits.{max_height}
use Rattle.ledger_model.specs.Values.{Value}
use Rattle.replica_core.specs.Facts.{heights_up_to}
use Rattle.run_picture.specs.declared.part.Part.{Part}
use Rattle.run_picture.specs.declared.entry_facts.Fact.TheVariants as fact
use Rattle.run_picture.specs.declared.entry_facts.Mark.{Mark}
use Rattle.run_picture.specs.Parts.{drawn_round}
use Rattle.run_picture.specs.Facts.{mark_in}
use Rattle.run_picture.specs.Orders.{shown_after}

-- a height, and the value that is decided there
pub record Decision : Type 0 where
  pub height : ℕ
  pub value : Value

-- the decision at the height, given what was decided there before an entry, and what is after it
abbrev pub new_decision : ℕ → Option Value → Option Value → Option Decision
new_decision h None (Some v) = Some (record { height = h; value = v })
new_decision h None None = None
new_decision h (Some v) after = None

-- what entry e, after these entries, decides at the height
abbrev pub decision_with : Config → ℕ → List Entry → Entry → ℕ → Option Decision
decision_with config id front e h = new_decision h (decided_at config id front h) (decided_at config id (front ++ e ∷ []) h)

-- what entry e decides after these entries, in ascending order of heights
unfoldable pub decisions_with : Config → ℕ → List Entry → Entry → List Decision
decisions_with config id front e = filter_map (decision_with config id front e) (heights_up_to max_height)

-- the mark of a decision, if it is shown
abbrev pub decision_mark : Part → ℕ → ℕ → ℕ → Decision → List Mark
decision_mark part r i clock d = mark_in part r i (drawn_round part clock) d.height (fact.Decides d.value)

-- the marks of what entry e decides after these entries
abbrev pub decisions_at : Config → Part → ℕ → List Entry → Entry → List Mark
decisions_at config part r front e = flat_map (decision_mark part r (length front) (clock_at front)) (decisions_with config r front e)

-- the decisions that replica r's entries show
abbrev pub decisions_in : Config → Part → ℕ → List Entry → List Mark
decisions_in config part r entries = shown_after (decisions_at config part r) [] entries

-- the mark of what is decided at a height, if something is and it is shown
abbrev pub mark_if : Part → ℕ → ℕ → ℕ → ℕ → Option Value → List Mark
mark_if part r i clock h None = []
mark_if part r i clock h (Some v) = mark_in part r i (drawn_round part clock) h (fact.Decides v)
