-- Values inserted into an ascending list, one after the other.
use Rattle.std.specs.Prelude.{List, [], ◌∷◌}
use Rattle.ledger_model.specs.Values.{Value, with_value}

-- the ascending list with each of these values inserted
abbrev pub with_values : List Value → List Value → List Value
with_values [] ws = ws
with_values (v ∷ vs) ws = with_values vs (with_value v ws)
