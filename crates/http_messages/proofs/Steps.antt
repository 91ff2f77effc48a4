-- Steps that may find a fault, except after allocation failure.
use Rattle.std.proofs.Common.{◌≡◌, ◌⊎◌, ap, inl, inr}
use Rattle.std.specs.Prelude.{Result, Err}
use Rattle.http_messages.specs.declared.fault.RequestFault.{RequestFault}
use Rattle.http_messages.specs.declared.fault.RequestFault.TheVariants as fault
use Rattle.http_messages.specs.Faults.{◌>>=◌}

-- the first step's fault is the fault of both
pub first_fault : {A B : Type 0} (e : RequestFault) (x : Result A RequestFault) (f : A → Result B RequestFault)
    → (e ≡ fault.NoMemory) ⊎ (x ≡ Err e) → (e ≡ fault.NoMemory) ⊎ ((x >>= f) ≡ Err e)
first_fault e x f h = elim h [ inl memory ↦ inl memory | inr is ↦ inr (ap (λ r. r >>= f) is) ]
