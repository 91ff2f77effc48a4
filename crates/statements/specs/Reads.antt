-- A reader's result, compared with what is at the front of the bytes.
use Rattle.std.specs.Prelude.{◌≡◌, ℕ, List, Option, Some, None, Result, Ok, Err}
use Rattle.statements.specs.declared.fault.DecodeFault.{DecodeFault}
use Rattle.statements.specs.declared.fault.DecodeFault.TheVariants.{Malformed, NoMemory}

-- why nothing was returned: Malformed if nothing of the kind is at the front, or memory ran out
abbrev pub IsFaultOf : {X : Type 0} → DecodeFault → Option X → Type 0
IsFaultOf Malformed at = at ≡ None
IsFaultOf NoMemory at = Unit {0}

-- what was returned, through `view`, was at the front, and the remaining bytes followed it
abbrev pub ReadsAs : {X Y : Type 0} → (X → Y) → Result X DecodeFault → List ℕ → Option (Y × List ℕ) → Type 0
ReadsAs view (Ok x) left at = at ≡ Some (view x, left)
ReadsAs view (Err fault) left at = IsFaultOf fault at

-- the same for a result that needs no view
abbrev pub IsReadFrom : {X : Type 0} → Result X DecodeFault → List ℕ → Option (X × List ℕ) → Type 0
IsReadFrom result left at = ReadsAs (λ x. x) result left at

-- the result is the reading, unless memory ran out
abbrev pub IsReadingOr : {X : Type 0} → Result X DecodeFault → Option X → Type 0
IsReadingOr (Ok x) reading = reading ≡ Some x
IsReadingOr (Err fault) reading = IsFaultOf fault reading
