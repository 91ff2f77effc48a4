-- The heights that a replica has opened and not retired.
use Rattle.std.specs.List.{AllByRecursion}
use Rattle.std.specs.Prelude.{◌≡◌, ℕ, ◌+◌, ◌<◌, ◌≤◌, ◌==◌, nat_lt, nat_le, slice_get, ◌||◌, List, [], ◌∷◌, Option, Some, None}
use Rattle.std.specs.Prelude.{is_some, Result}
use Rattle.std.specs.Prelude.{filter, if◌then◌else◌}
use Rattle.ledger_model.specs.Limits.{max_height, max_ahead}
use Rattle.ledger_model.specs.declared.config.Config.{Config}
use Rattle.ledger_model.specs.declared.reply.ProposeRefusal.{ProposeRefusal}
use Rattle.ledger_model.specs.declared.reply.ProposeRefusal.TheVariants as refusal
use Rattle.ledger_model.specs.Values.{Value}
use Rattle.ledger_model.specs.Commits.{first_fault}
use Rattle.instance.specs.declared.round_statement.RoundStatement.{RoundStatement}
use Rattle.instance.specs.declared.round_plan.RoundPlan.{RoundPlan}
use Rattle.instance.specs.Plans.{chosen_statement, opened_effects, closed}
use Rattle.instance.specs.Instances.{InstanceView}

-- a replica of a cluster, its floor, and the instance of each height from there on that it has opened
pub record HeightRowView : Type 0 where
  pub config : Config
  pub id : ℕ
  pub floor : ℕ
  pub rows : List InstanceView

-- the instance of a height, if the height is open
abbrev pub row_at : List InstanceView → ℕ → Option InstanceView
row_at [] h = None
row_at (row ∷ rows) h = if row.height == h then Some row else row_at rows h

-- the value that an instance decided, if there is one
abbrev pub decided_in : Option InstanceView → Option Value
decided_in None = None
decided_in (Some row) = row.decided

-- the instances of the heights from the floor on
abbrev pub rows_from : ℕ → List InstanceView → List InstanceView
rows_from floor rows = filter (λ row. nat_le floor row.height) rows

-- whether a height may be opened, if `committed` blocks are committed; if not, the first refusal that applies
abbrev pub open_answer : ℕ → List InstanceView → ℕ → ℕ → Result (Unit {0}) ProposeRefusal
open_answer floor rows committed h = first_fault (
    ((h == 0) || nat_lt max_height h, refusal.Closed)
    ∷ (nat_lt h floor, refusal.Retired)
    ∷ (is_some (row_at rows h), refusal.AlreadyOpen)
    ∷ (nat_lt (committed + max_ahead) h, refusal.TooFar)
    ∷ []) tt

-- the heights ascend strictly
abbrev pub AreAscending : List InstanceView → Type 0
AreAscending [] = Unit {0}
AreAscending (row ∷ rows) = AllByRecursion (λ later. row.height < later.height) rows × AreAscending rows

-- each row is the one that is found under its height
abbrev pub AreFound : List InstanceView → Type 0
AreFound rows = (place : ℕ) (row : InstanceView) → slice_get rows place ≡ Some row → row_at rows row.height ≡ Some row

-- all heights but h are unchanged
abbrev pub AreApart : ℕ → List InstanceView → List InstanceView → Type 0
AreApart h old new = (other : ℕ) → (other ≡ h → ⊥) → row_at new other ≡ row_at old other

-- each open height belongs to this replica and this cluster, is at most the last height, and isn't below the floor
abbrev pub AreOwn : HeightRowView → Type 0
AreOwn heights =
    (h : ℕ) (row : InstanceView) → row_at heights.rows h ≡ Some row
    → (row.config ≡ heights.config) × (row.id ≡ heights.id) × (row.height ≡ h) × (h ≤ max_height) × (heights.floor ≤ h)

-- the plan for a height as round c opens
abbrev pub height_plan : ℕ → InstanceView → RoundPlan
height_plan c row = record { statement = chosen_statement row c; ending = opened_effects row c }

-- the instances after round c opened, if the heights make this, in order
abbrev pub closed_each : ℕ → List InstanceView → List RoundStatement → List InstanceView
closed_each c (row ∷ rows) (m ∷ ms) = closed row c (opened_effects row c) m ∷ closed_each c rows ms
closed_each c (row ∷ rows) [] = row ∷ rows
closed_each c [] ms = []

-- both rows are of the same replica, and have the same floor
pub record IsSameRow (old new : HeightRowView) : Type 0 where
  pub config : new.config ≡ old.config
  pub id : new.id ≡ old.id
  pub floor : new.floor ≡ old.floor
