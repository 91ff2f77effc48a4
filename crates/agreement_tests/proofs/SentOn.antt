-- The first frame that is sent on.
use Rattle.std.proofs.Common.{◌≡◌, ℕ, true, List, [], ◌∷◌, subst}
use Rattle.std.specs.Prelude.{Some, slice_get}
use Rattle.std.specs.List.{AllByRecursion}
use Rattle.ledger_model.specs.declared.statement.SignedStatement.{SignedStatement}
use Rattle.ledger_model.specs.Reading.{reading}
use Rattle.ledger_model.specs.Rules.{Ring, is_signed}
use Rattle.lock_proofs.specs.LockTables.{as_statement}
use Rattle.instance.specs.Laws.{IsLockSentOn}

module _ (ring : Ring) (height : ℕ) where
  pub first_reads : (sent : List (List ℕ)) (bytes : List ℕ) → AllByRecursion (IsLockSentOn ring height) sent → slice_get sent 0 ≡ Some bytes
      → (s : SignedStatement) × ((reading bytes ≡ Some s) × (is_signed ring s ≡ true))
  first_reads [] bytes all at = cc
  first_reads (x ∷ xs) bytes all at =
      let same : x ≡ bytes = cc in
      (as_statement all.0.lock, (subst (λ b. reading b ≡ Some (as_statement all.0.lock)) same all.0.reads, all.0.signed))
