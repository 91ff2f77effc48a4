-- One more height in a range that is searched.
use Rattle.std.proofs.Common.{◌≡◌, ◌∙◌, ℕ, ◌+◌, ◌-◌, ◌≤◌, suc, Bool, true, false, [], ◌∷◌, ◌++◌, not, Bor, refl, sym, ap, arith, append-nil}
use Rattle.std.specs.Prelude.{filter, Option, Some, None, is_some, is_none}
use Rattle.std.specs.Option.{option_copied}
use Rattle.std.specs.List.{range_with_len}
use Rattle.std.proofs.lemmas.List.Elements.{filter-append}
use Rattle.ledger_model.proofs.Lists.{range_more as range_longer}

range_more : (first height : ℕ) → first ≤ height
    → range_with_len first (height + 1 - first) ≡ range_with_len first (height - first) ++ height ∷ []
range_more first height from =
    let one : height + 1 - first ≡ suc (height - first) = omega (arith, from) in
    let last : first + (height - first) ≡ height = omega (arith, from) in
    ap (range_with_len first) one ∙ range_longer first (height - first) ∙ ap (λ h. range_with_len first (height - first) ++ h ∷ []) last

searched : (p : ℕ → Bool) (first height : ℕ) → first ≤ height
    → filter p (range_with_len first (height + 1 - first)) ≡ filter p (range_with_len first (height - first)) ++ filter p (height ∷ [])
searched p first height from =
    ap (filter p) (range_more first height from) ∙ filter-append p (range_with_len first (height - first)) (height ∷ [])

-- the height passes the test
pub passes : (p : ℕ → Bool) (first height : ℕ) → first ≤ height → p height ≡ true
    → filter p (range_with_len first (height + 1 - first)) ≡ filter p (range_with_len first (height - first)) ++ height ∷ []
passes p first height from is =
    searched p first height from ∙ ap (λ l. filter p (range_with_len first (height - first)) ++ l) (rw is refl)

-- the height doesn't
pub fails : (p : ℕ → Bool) (first height : ℕ) → first ≤ height → p height ≡ false
    → filter p (range_with_len first (height + 1 - first)) ≡ filter p (range_with_len first (height - first))
fails p first height from is =
    searched p first height from ∙ ap (λ l. filter p (range_with_len first (height - first)) ++ l) (rw is refl) ∙ append-nil _

-- a borrowed value is there where what it shows is
pub none_copied : {T : Type 0} (lent : Option (Bor T)) (shown : Option T) → option_copied lent ≡ shown → is_none lent ≡ true
    → not (is_some shown) ≡ true
none_copied None shown e none = ap (λ o. not (is_some o)) (sym e)
none_copied (Some x) shown e none = absurd cc

pub some_copied : {T : Type 0} (lent : Option (Bor T)) (shown : Option T) → option_copied lent ≡ shown → is_none lent ≡ false
    → not (is_some shown) ≡ false
some_copied None shown e some = absurd cc
some_copied (Some x) shown e some = ap (λ o. not (is_some o)) (sym e)
