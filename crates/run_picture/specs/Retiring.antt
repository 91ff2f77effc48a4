-- The heights that the entries of a history give up.
use Rattle.std.specs.Prelude.{ℕ, ◌-◌, List, [], ◌∷◌, ◌++◌, length}
use Rattle.std.specs.List.{flat_map, range_with_len}
use Rattle.ledger_model.specs.declared.history.Entry.{Entry}
use Rattle.ledger_model.specs.Commits.{floor_of}
use Rattle.ledger_model.specs.Lawful.{clock_at}
use Rattle.run_picture.specs.declared.entry_facts.Fact.TheVariants as fact
use Rattle.run_picture.specs.declared.entry_facts.Mark.{Mark}
use Rattle.run_picture.specs.declared.part.Part.{Part}
use Rattle.run_picture.specs.Facts.{mark_in}
use Rattle.run_picture.specs.Orders.{shown_after}
use Rattle.run_picture.specs.Parts.{drawn_round}

-- the heights that entry e gives up after these entries: those from the old floor up to the new one
abbrev pub retired_with : List Entry → Entry → List ℕ
retired_with front e = range_with_len (floor_of front) (floor_of (front ++ e ∷ []) - floor_of front)

-- a mark for each of these heights, if it is shown
abbrev pub retired_marks : Part → ℕ → ℕ → ℕ → List ℕ → List Mark
retired_marks part r i clock heights = flat_map (λ h. mark_in part r i (drawn_round part clock) h fact.Retires) heights

-- the marks of what entry e gives up after these entries
abbrev pub retired_marks_of : Part → ℕ → List Entry → Entry → List Mark
retired_marks_of part r front e = retired_marks part r (length front) (clock_at front) (retired_with front e)

-- the heights that replica r's entries give up
abbrev pub retired_in : Part → ℕ → List Entry → List Mark
retired_in part r entries = shown_after (retired_marks_of part r) [] entries
