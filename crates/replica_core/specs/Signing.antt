-- The statements that are due, signed in order.
use Rattle.std.specs.Prelude.{◌≡◌, ℕ, ◌+◌, Bool, List, [], ◌∷◌, Some, None, is_some, if◌then◌else◌}
use Rattle.ledger_model.specs.Spelling.{statement_bytes}
use Rattle.lms_tree.specs.Trees.{Secret}
use Rattle.key_ring.specs.Signers.{signed_with}
use Rattle.instance.specs.declared.round_statement.RoundStatement.{RoundStatement}
use Rattle.instance.specs.declared.round_statement.RoundStatement.TheVariants as made
use Rattle.instance.specs.declared.round_plan.RoundPlan.{RoundPlan}
use Rattle.replica_core.specs.declared.signing.Spelled.{Spelled}

-- the number of statements in one plan, 0 or 1
abbrev pub planned_count : RoundPlan → ℕ
planned_count plan = if is_some plan.statement then 1 else 0

-- the number of statements in the plans
abbrev pub due_in : List RoundPlan → ℕ
due_in [] = 0
due_in (plan ∷ plans) = planned_count plan + due_in plans

-- each height makes the statement of its plan, signed with the leaves from `leaf` on, in order
abbrev pub SignsPlans : Secret → ℕ → List RoundPlan → List RoundStatement → Type 0
SignsPlans secret leaf [] [] = Unit {0}
SignsPlans secret leaf (plan ∷ plans) (made.Unsent ∷ ms) = (plan.statement ≡ None) × SignsPlans secret leaf plans ms
SignsPlans secret leaf (plan ∷ plans) (made.Sent f ∷ ms) =
    (plan.statement ≡ Some f.statement) × (f.signature ≡ signed_with secret leaf (statement_bytes f.statement))
    × SignsPlans secret (leaf + 1) plans ms
SignsPlans secret leaf (plan ∷ plans) (made.Mute ∷ ms) = ⊥
SignsPlans secret leaf [] (m ∷ ms) = ⊥
SignsPlans secret leaf (plan ∷ plans) [] = ⊥

-- the plan whose statement is encoded
abbrev pub plan_spelled : Spelled → RoundPlan
plan_spelled spelled = record { statement = spelled.statement; ending = spelled.ending }

-- what a height makes if the replica sends no statement there
abbrev pub nothing_made : Bool → RoundStatement
nothing_made mute = if mute then made.Mute else made.Unsent
