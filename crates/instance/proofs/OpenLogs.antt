-- Whether a height is open, as its log grows.
use Rattle.std.proofs.Common.{◌≡◌, true, false, ◌||◌, List, [], ◌∷◌, ◌++◌, refl, ◌∙◌}
use Rattle.std.specs.Prelude.{Some, None}
use Rattle.std.proofs.lemmas.Bool.{or_left, or_right}
use Rattle.ledger_model.specs.Notes.{Note, Proposed, Round, OwnStatement, Read, Retired, initial_of, retires, is_retired, open_of, is_open}
use Rattle.ledger_model.specs.Values.{Value}
use Rattle.ledger_model.specs.Lawful.{held_locks, locks_sent_on}
use Rattle.ledger_model.proofs.Floors.{is_retired-append}
use Rattle.ledger_model.proofs.Goodness.{initial_of-append, open_value}
use Rattle.instance.specs.Matching.{only_rounds}

-- ---- retired

-- a retired height isn't open
pub closed : (log : List Note) → is_retired log ≡ true → open_of log ≡ None
closed log e = rw e refl

-- and stays retired
pub closed-append : (xs ys : List Note) → is_retired xs ≡ true → open_of (xs ++ ys) ≡ None
closed-append xs ys e = closed (xs ++ ys) (is_retired-append xs ys ∙ or_left (is_retired xs) (is_retired ys) e)

-- notes retire it
pub closed_by : (xs ys : List Note) → is_retired ys ≡ true → open_of (xs ++ ys) ≡ None
closed_by xs ys e = closed (xs ++ ys) (is_retired-append xs ys ∙ or_right (is_retired xs) (is_retired ys) e)

-- ---- open

-- a height at which a value was proposed is open with it, unless it is retired
pub open_from : (log : List Note) (own : Value) → is_retired log ≡ false → initial_of log ≡ Some own → open_of log ≡ Some own
open_from log own kept began = rw kept began

-- an open height stays open under notes that don't retire it
pub open_of-append : (xs ys : List Note) (own : Value) → open_of xs ≡ Some own → is_retired ys ≡ false → open_of (xs ++ ys) ≡ Some own
open_of-append xs ys own e kept =
    let opened = open_value xs own e in
    open_from (xs ++ ys) own (is_retired-append xs ys ∙ (λ i. opened.0 i || kept i)) (initial_of-append xs ys own opened.1)

-- a height that is open with no value isn't open
pub none_is_closed : (log : List Note) → open_of log ≡ None → is_open log ≡ false
none_is_closed log e = rw e refl

-- a replica sends on the locks of an open height
pub locks_sent_on-open : (log : List Note) (own : Value) → open_of log ≡ Some own → locks_sent_on log ≡ held_locks log
locks_sent_on-open log own e = rw e refl

-- ---- logs of opened rounds

pub only_rounds_kept : (log : List Note) → only_rounds log ≡ true → is_retired log ≡ false
only_rounds_kept [] h = refl
only_rounds_kept (Round c ∷ log) h = only_rounds_kept log h
only_rounds_kept (Proposed v ∷ log) h = cc
only_rounds_kept (OwnStatement c s ∷ log) h = cc
only_rounds_kept (Read c s ∷ log) h = cc
only_rounds_kept (Retired f ∷ log) h = cc

only_rounds_initial : (log : List Note) → only_rounds log ≡ true → initial_of log ≡ None
only_rounds_initial [] h = refl
only_rounds_initial (Round c ∷ log) h = only_rounds_initial log h
only_rounds_initial (Proposed v ∷ log) h = cc
only_rounds_initial (OwnStatement c s ∷ log) h = cc
only_rounds_initial (Read c s ∷ log) h = cc
only_rounds_initial (Retired f ∷ log) h = cc

-- a height that wasn't opened yet isn't open
pub only_rounds_closed : (log : List Note) → only_rounds log ≡ true → open_of log ≡ None
only_rounds_closed log h = rw (only_rounds_kept log h) (only_rounds_initial log h)
