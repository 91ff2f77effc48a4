-- No leaf signs twice, in any series of calls.
use Rattle.std.specs.Prelude.{◌≡◌, ℕ, ◌+◌, ◌≤◌, List, [], ◌∷◌, take, Option, Some, None, Result, Ok, Err}
use Rattle.std.specs.List.{filter_map}
use Rattle.std.specs.Int.{w32, from_be_bytes}
use Rattle.key_ring.specs.Signers.{SignerView, Signs}
use Rattle.key_ring.specs.declared.fault.SignFault.{SignFault}

-- a call of `sign`, and its result
pub record Call : Type 0 where
  pub message : List ℕ
  pub answer : Result (List ℕ) SignFault

-- the calls, one after another, lead from the old signer to the new one
unfoldable pub SignsAll : SignerView → List Call → SignerView → Type 0
SignsAll old [] new = new ≡ old
SignsAll old (c ∷ cs) new = (next : SignerView) × (Signs old c.message c.answer next × SignsAll next cs new)

-- the leaf number in a signature (RFC 8554, section 5.4)
abbrev pub leaf_in : List ℕ → ℕ
leaf_in signature = from_be_bytes w32 (take 4 signature)

-- the leaf number of the signature that was returned, if one was
abbrev pub leaf_of : Result (List ℕ) SignFault → Option ℕ
leaf_of (Ok signature) = Some (leaf_in signature)
leaf_of (Err fault) = None

-- the numbers ascend strictly, and none is below `least`
unfoldable pub AscendFrom : ℕ → List ℕ → Type 0
AscendFrom least [] = Unit {0}
AscendFrom least (n ∷ ns) = (least ≤ n) × AscendFrom (n + 1) ns

-- whatever is signed, and whichever calls fail, the leaf numbers of the signatures ascend
abbrev pub NoLeafTwice : Type 0
NoLeafTwice =
    (old new : SignerView) (calls : List Call) → SignsAll old calls new
    → AscendFrom old.used (filter_map (λ c. leaf_of c.answer) calls)
