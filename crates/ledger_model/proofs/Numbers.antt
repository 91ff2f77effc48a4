-- A number names one application.
use Rattle.std.proofs.Common.{◌≡◌, ℕ, Some, cond, true, false, Bool, refl, sym, ap, ◌∙◌, None}
use Rattle.std.specs.Prelude.{◌==◌}
use Rattle.std.proofs.lemmas.Bool.{eqb-true}
use Rattle.ledger_model.specs.declared.config.AppKind.{AppKind}
use Rattle.ledger_model.specs.declared.config.AppKind.TheVariants.{Own, KvStore, Counter, Purse}
use Rattle.ledger_model.specs.Numbers.{kind_number, kind_of_number}

pub kind_again : (kind : AppKind) → kind_of_number (kind_number kind) ≡ Some kind
unfolding kind_of_number
kind_again Own = refl
kind_again KvStore = refl
kind_again Counter = refl
kind_again Purse = refl

same_some : (a b : AppKind) → Some a ≡ Some b → a ≡ b
same_some a b e = cc

pub one_kind : (a b : AppKind) → kind_number a ≡ kind_number b → a ≡ b
one_kind a b same = same_some a b (sym (kind_again a) ∙ ap kind_of_number same ∙ kind_again b)

pub kind_of_number-sound : (n : ℕ) (kind : AppKind) → kind_of_number n ≡ Some kind → n ≡ kind_number kind
unfolding kind_of_number
kind_of_number-sound n kind e = by_none (n == 0) refl e
  where
    by_third : (t : Bool) → (n == 3) ≡ t → cond t (Some Purse) None ≡ Some kind → n ≡ kind_number kind
    by_third true is e = let same : Purse ≡ kind = cc in eqb-true n 3 is ∙ ap kind_number same
    by_third false is e = cc

    by_second : (t : Bool) → (n == 2) ≡ t → cond t (Some Counter) (cond (n == 3) (Some Purse) None) ≡ Some kind → n ≡ kind_number kind
    by_second true is e = let same : Counter ≡ kind = cc in eqb-true n 2 is ∙ ap kind_number same
    by_second false is e = by_third (n == 3) refl e

    by_first : (t : Bool) → (n == 1) ≡ t
        → cond t (Some KvStore) (cond (n == 2) (Some Counter) (cond (n == 3) (Some Purse) None)) ≡ Some kind → n ≡ kind_number kind
    by_first true is e = let same : KvStore ≡ kind = cc in eqb-true n 1 is ∙ ap kind_number same
    by_first false is e = by_second (n == 2) refl e

    by_none : (t : Bool) → (n == 0) ≡ t
        → cond t (Some Own) (cond (n == 1) (Some KvStore) (cond (n == 2) (Some Counter) (cond (n == 3) (Some Purse) None))) ≡ Some kind
        → n ≡ kind_number kind
    by_none true is e = let same : Own ≡ kind = cc in eqb-true n 0 is ∙ ap kind_number same
    by_none false is e = by_first (n == 1) refl e
