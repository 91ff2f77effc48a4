-- A fact about every error holds for the error that is returned.
use Rattle.std.proofs.Common.{◌≡◌, sym, subst}
use Rattle.std.specs.Prelude.{Result, Ok, Err, MatchResult, IfErr}
use Rattle.std.specs.Result.{IsErr, IsErrAnd}

-- what a result means, where it is an error
pub on_error : {T E Q : Type 0} (P : T → Type 0) (r : Result T E) → IsErr r → Q → MatchResult r P (λ _. Q)
on_error P (Ok x) bad so = absurd cc
on_error P (Err e) bad so = so

-- what follows from what a result means, either way
pub each_way : {T E : Type 0} (P R : T → Type 0) (Q S : E → Type 0) (r : Result T E) → ((x : T) → P x → R x) → ((e : E) → Q e → S e)
    → MatchResult r P Q → MatchResult r R S
each_way P R Q S (Ok x) well ill so = well x so
each_way P R Q S (Err e) well ill so = ill e so

-- `?` passes an error up as it is
pub passed : {T E : Type 0} (r : Result T E) (e : E) (P : E → Type 0) → IsErrAnd r (λ y. y ≡ e) → P e → IfErr r P
passed (Ok x) e P is p = tt
passed (Err y) e P is p = subst P (sym is) p
