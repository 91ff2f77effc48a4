-- The part of a run that a picture shows.
use Rattle.std.specs.Prelude.{ℕ, ◌==◌, nat_le, Bool, true, ◌&&◌, Option, Some, None, if◌then◌else◌}
use Rattle.std.specs.Option.{is_none}
use Rattle.ledger_model.specs.declared.statement.Statement.{Statement}
use Rattle.ledger_model.specs.Logs.{height_of}
use Rattle.run_picture.specs.declared.part.Part.{Part}

-- the picture shows the round
abbrev pub has_round : Part → ℕ → Bool
has_round part c = nat_le part.first c && nat_le c part.last

-- the round, if the picture shows it
abbrev pub drawn_round : Part → ℕ → Option ℕ
drawn_round part c = if has_round part c then Some c else None

-- the height is the one that is shown, if only one is
abbrev pub is_shown : Option ℕ → ℕ → Bool
is_shown None h = true
is_shown (Some k) h = k == h

-- the picture shows what is about this height
abbrev pub has_height : Part → ℕ → Bool
has_height part h = is_shown part.height h

-- the picture shows a frame with this statement; what is no frame is about no height
abbrev pub has_statement : Part → Option Statement → Bool
has_statement part (Some s) = has_height part (height_of s)
has_statement part None = is_none part.height
