-- A commit keeps the kind of a machine.
use Rattle.std.proofs.Common.{◌≡◌, ℕ, List, Option, Some, None, ap, sym, refl}
use Rattle.std.specs.Option.{IsSome}
use Rattle.ledger_model.specs.Applications.{Machine}
use Rattle.abci.specs.Meaning.{CommitsTo}

pub kind_stays : (old new : Machine) (hash : List ℕ) → IsSome old.working → CommitsTo old hash new → old.kind ≡ new.kind
kind_stays old new hash some commits = by old.working refl some
  where
    by : (w : Option (List ℕ)) → old.working ≡ w → IsSome w → old.kind ≡ new.kind
    by None is none = cc
    by (Some state) is some = ap (λ (m : Machine). m.kind) (sym ((commits state is).0))
