-- The numbers by which operators and texts name applications and versions.
use Rattle.std.specs.Prelude.{ℕ, ◌==◌, Bool, true, false, if◌then◌else◌, Option, Some, None}
use Rattle.ledger_model.specs.declared.config.AppKind.{AppKind}
use Rattle.ledger_model.specs.declared.config.AppKind.TheVariants.{Own, KvStore, Counter, Purse}
use Rattle.ledger_model.specs.declared.config.AppKinds.{AppKinds}
use Rattle.ledger_model.specs.declared.config.AppKinds.TheVariants.{Three, OwnAlone}
use Rattle.ledger_model.specs.declared.version.Version.{Version}
use Rattle.ledger_model.specs.declared.version.Version.TheVariants.{One, Two}

-- the number of an application
abbrev pub kind_number : AppKind → ℕ
kind_number Own = 0
kind_number KvStore = 1
kind_number Counter = 2
kind_number Purse = 3

-- the application of a number
unfoldable pub kind_of_number : ℕ → Option AppKind
kind_of_number n =
    if n == 0 then Some Own else if n == 1 then Some KvStore else if n == 2 then Some Counter else if n == 3 then Some Purse else None

-- a program that has these kinds has this one
abbrev pub has_kind : AppKinds → AppKind → Bool
has_kind Three Own = false
has_kind Three kind = true
has_kind OwnAlone Own = true
has_kind OwnAlone kind = false

-- the number of a version
abbrev pub version_number : Version → ℕ
version_number One = 1
version_number Two = 2
