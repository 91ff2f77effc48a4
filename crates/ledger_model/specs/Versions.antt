-- The versions of statements: what their limits are, and which statements are read where.
use Rattle.std.specs.Prelude.{ℕ, ◌+◌, ◌==◌, if◌then◌else◌, Bool, true, false, Option, Some, None}
use Rattle.ledger_model.specs.declared.version.Version.{Version}
use Rattle.ledger_model.specs.declared.version.Version.TheVariants.{One, Two}

-- frames of the first version may carry statements of the second: frames of version 2 carry both versions
abbrev pub reads : Version → Version → Bool
reads Two version = true
reads One One = true
reads One Two = false

-- the version of this number
abbrev pub numbered : ℕ → Option Version
numbered n = if n == 1 then Some One else if n == 2 then Some Two else None

-- the most transactions of a batch
abbrev pub batch_limit : Version → ℕ
batch_limit One = 16
batch_limit Two = 64

-- the most bytes of a frame after its length: a statement and its signature
abbrev pub body_limit : Version → ℕ
body_limit One = 150000
body_limit Two = 600000

-- the first byte of a statement of this kind, 1 to 3
abbrev pub first_byte : Version → ℕ → ℕ
first_byte One kind = kind
first_byte Two kind = kind + 16
