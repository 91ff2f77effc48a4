-- Frames of every version carry statements of version 1, and those of version 2 carry all; what they carry is within their limits.
use Rattle.std.proofs.Common.{◌≡◌, ℕ, ◌≤◌, true, refl, arith}
use Rattle.ledger_model.specs.Versions.{reads, batch_limit}
use Rattle.ledger_model.specs.Values.{Value, IsValueIn}
use Rattle.ledger_model.specs.declared.version.Version.{Version}
use Rattle.ledger_model.specs.declared.version.Version.TheVariants.{One, Two}

pub reads_one : (version : Version) → reads version One ≡ true
reads_one One = refl
reads_one Two = refl

pub reads_own : (version : Version) → reads version version ≡ true
reads_own One = refl
reads_own Two = refl

-- a batch of a statement that frames of this version carry is within their limit
limit_within : (version own : Version) (n : ℕ) → reads version own ≡ true → n ≤ batch_limit own → n ≤ batch_limit version
limit_within One One n carried few = few
limit_within One Two n carried few = absurd cc
limit_within Two One n carried few = omega arith
limit_within Two Two n carried few = few

pub value_within : (version own : Version) (v : Value) → reads version own ≡ true → IsValueIn own v → IsValueIn version v
value_within version own v carried is = record { few = limit_within version own _ carried is.few; each = is.each }
