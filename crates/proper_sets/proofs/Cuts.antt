-- The own value and the least three of the others.
use Rattle.std.proofs.Common.{◌≡◌, ℕ, ◌≤◌, Bool, true, not, List, ◌++◌, length, take, ap, ◌∙◌, ◌||◌, arith, length-take}
use Rattle.std.specs.Prelude.{filter}
use Rattle.ledger_model.specs.declared.config.Config.{Config}
use Rattle.ledger_model.specs.declared.statement.Report.{Report}
use Rattle.ledger_model.specs.Values.{Value, same_value, with_value}
use Rattle.ledger_model.specs.Proper.{cut}
use Rattle.proper_sets.specs.Propriety.{ProperSet, absorbed, are_all_named_by, is_split_among, initials, named_values}
use Rattle.ledger_model.specs.Spelling.{are_ascending}
use Rattle.ledger_model.proofs.Lists.{has_any, has_with, same_value-refl}
use Rattle.proper_sets.specs.ProperViews.{IsSmall}
use Rattle.proper_sets.specs.Puts.{with_values}
use Rattle.proper_sets.proofs.Orders.{with_value-few, with_values-ascending}

pub IsSmall-with_own : (own : Value) (ws : List Value) → length ws ≤ 3 → IsSmall own (with_value own ws)
IsSmall-with_own own ws few = record {
  few = omega (arith, with_value-few own ws);
  own_listed = has_any (same_value own) (with_value own ws) own (has_with own ws) (same_value-refl own);
}

pub IsSmall-cut : (own : Value) (vs : List Value) → IsSmall own (with_value own (take 3 vs))
IsSmall-cut own vs = IsSmall-with_own own (take 3 vs) (rw length-take (omega arith))

-- values that are put among ascending ones, and cut
pub cut-put : (own : Value) (explicit named : List Value) → are_ascending explicit ≡ true
    → with_value own (take 3 (filter (λ v. not (same_value own v)) (with_values named explicit))) ≡ cut own (explicit ++ named)
cut-put own explicit named ascend =
    ap (λ vs. with_value own (take 3 (filter (λ v. not (same_value own v)) vs))) (with_values-ascending named explicit ascend)

-- ---- what a phase leaves

abbrev pub set_of : Value → Bool → List Value → ProperSet
set_of own all explicit = record { own = own; all = all; explicit = explicit }

pub absorbed-parts : (config : Config) (id : ℕ) (reports : List Report) (own : Value) (all all_after : Bool)
    (explicit explicit_after : List Value)
    → all_after ≡ (all || are_all_named_by config id reports || is_split_among config (initials id own reports))
    → explicit_after ≡ cut own (explicit ++ named_values config id reports)
    → set_of own all_after explicit_after ≡ absorbed config id reports (set_of own all explicit)
unfolding absorbed
absorbed-parts config id reports own all all_after explicit explicit_after a e =
    ap (λ b. set_of own b explicit_after) a
    ∙ ap (set_of own (all || are_all_named_by config id reports || is_split_among config (initials id own reports))) e
