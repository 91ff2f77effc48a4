-- Which round a frame belongs to.
use Rattle.std.specs.Prelude.{ℕ, ◌+◌, Bool, false, ◌&&◌, Option, Some, None}
use Rattle.ledger_model.specs.declared.statement.SignedStatement.{SignedStatement}
use Rattle.ledger_model.specs.declared.statement.Statement.{Statement}
use Rattle.ledger_model.specs.Rounds.{place_of}
use Rattle.ledger_model.specs.Rules.{has_place, has_phase}

-- the statement is read in round c, by its kind and its phase
abbrev pub is_of_round : ℕ → Statement → Bool
is_of_round c s = has_place (place_of c) s && has_phase c s

-- the frame's statement belongs to the round after the open one
abbrev pub is_early : ℕ → Option SignedStatement → Bool
is_early clock None = false
is_early clock (Some s) = is_of_round (clock + 1) s.statement
