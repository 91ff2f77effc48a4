use Rattle.std.proofs.Common.{◌≡◌, true, subst}
use Rattle.ledger_model.specs.Values.{Value, same_value}
use Rattle.ledger_model.proofs.Lists.{same_value-refl, same_value-equal}
use Rattle.replica_core.proofs.comparing.is_same_proposed.Goals as goal

-- two batches
pub returns-in-Ok-Ok : goal.returns-in-Ok-Ok
returns-in-Ok-Ok c = rw (c.in-Ok-Ok.is-0, c.in-Ok-Ok.is-1, c.eq.ensures) (
  λ same. (let equal = same_value-equal c.in-Ok-Ok.one c.in-Ok-Ok.other same in cc),
  λ is. (let equal : c.in-Ok-Ok.one ≡ c.in-Ok-Ok.other =
      cc in subst (λ (v : Value). same_value c.in-Ok-Ok.one v ≡ true) equal (same_value-refl c.in-Ok-Ok.one)),
)
