-- How each open height closes its round.
use Rattle.std.specs.Prelude.{◌≡◌, ℕ, List, [], ◌∷◌}
use Rattle.instance.specs.Instances.{InstanceView}
use Rattle.instance.specs.Plans.{opened_effects, IsOwnMade}
use Rattle.height_row.specs.declared.round_closing.RoundClosing.{RoundClosing}

-- each closing has the effects of its height as round c opens, and no statement of another replica
abbrev pub AreClosings : ℕ → List InstanceView → List RoundClosing → Type 0
AreClosings c [] [] = Unit {0}
AreClosings c (row ∷ rows) (x ∷ xs) = (x.ending ≡ opened_effects row c) × IsOwnMade row.config row.id x.made × AreClosings c rows xs
AreClosings c [] (x ∷ xs) = ⊥
AreClosings c (row ∷ rows) [] = ⊥
