-- How long the head of a request may be.
use Rattle.std.specs.Prelude.{ℕ}

-- the most bytes of a head
abbrev pub max_head_len : ℕ
max_head_len = 8192

-- the most field lines of a head
abbrev pub max_fields : ℕ
max_fields = 64
