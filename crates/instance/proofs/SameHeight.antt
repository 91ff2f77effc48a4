-- What a round end, or a statement that is read, leaves unchanged of a height.
use Rattle.std.proofs.Common.{ℕ, List, [], ◌∷◌, refl, ◌∙◌, arith}
use Rattle.std.specs.Prelude.{Result}
use Rattle.ledger_model.specs.declared.reply.Ignored.{Ignored}
use Rattle.ledger_model.specs.declared.statement.SignedStatement.{SignedStatement}
use Rattle.proper_sets.specs.Propriety.{absorbed}
use Rattle.instance.specs.Instances.{InstanceView}
use Rattle.instance.specs.Reads.{after_read, if_accepted, IsSameHeight}
use Rattle.instance.specs.declared.round_statement.RoundStatement.{RoundStatement}
use Rattle.instance.specs.Plans.{opened_effects, in_round, with_ends, made_by, with_own, with_all, closed}

same_trans : (a b c : InstanceView) → IsSameHeight a b → IsSameHeight b c → IsSameHeight a c
same_trans a b c p q = record { config = q.config ∙ p.config; id = q.id ∙ p.id; height = q.height ∙ p.height; own = q.own ∙ p.own }

-- nothing changes
pub same_self : (row : InstanceView) → IsSameHeight row row
same_self row = record { config = refl; id = refl; height = refl; own = refl }

-- a statement is read
pub same_after : (row : InstanceView) (c : ℕ) (s : SignedStatement) (r : Result (Unit {0}) Ignored)
    → IsSameHeight row (if_accepted r (after_read row c s) row)
same_after row c s r = record { config = grind arith; id = grind arith; height = grind arith; own = grind arith }

-- a round ends
same_ends : (row : InstanceView) (c : ℕ) → IsSameHeight row (with_ends (opened_effects row c) (in_round c row))
unfolding opened_effects absorbed
same_ends row c = record { config = grind arith; id = grind arith; height = grind arith; own = grind arith }

same_own : (row : InstanceView) (s : SignedStatement) → IsSameHeight row (with_own s row)
same_own row s = record { config = grind arith; id = grind arith; height = grind arith; own = grind arith }

same_all : (row : InstanceView) (made : List SignedStatement) → IsSameHeight row (with_all made row)
same_all row [] = same_self row
same_all row (s ∷ made) = let next : InstanceView =
    with_own s row in same_trans row next (with_all made next) (same_own row s) (same_all next made)

-- and is closed with what is made
pub same_closed : (row : InstanceView) (c : ℕ) (m : RoundStatement) → IsSameHeight row (closed row c (opened_effects row c) m)
unfolding closed
same_closed row c m =
    let begun : InstanceView = with_ends (opened_effects row c) (in_round c row) in
    same_trans row begun (with_all (made_by (opened_effects row c).unsent m) begun) (same_ends row c)
    (same_all begun (made_by (opened_effects row c).unsent m))
