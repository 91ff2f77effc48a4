-- Tallies: what was read in a round, with one place for each replica.
use Rattle.std.specs.Prelude.{ℕ, ◌+◌, Bool, List, [], ◌∷◌, Option, Some, None, length, filter, slice_get}
use Rattle.std.specs.List.{filter_map}

-- one place for each replica, in order; it is empty if nothing was read of the replica
abbrev pub Places : Type 0 → Type 0
Places X = List (Option X)

-- the element of the place, if there is a place and it has one
abbrev pub flat : {X : Type 0} → Option (Option X) → Option X
flat None = None
flat (Some place) = place

-- what was read of replica r, if anything was
abbrev pub read_of : {X : Type 0} → Places X → ℕ → Option X
read_of places r = flat (slice_get places r)

-- what was read, in ascending order of replicas
abbrev pub all_read : {X : Type 0} → Places X → List X
all_read places = filter_map (λ place. place) places

-- the numbers of the replicas of which something was read; the first place is that of replica r
abbrev pub signers_from : {X : Type 0} → ℕ → Places X → List ℕ
signers_from r [] = []
signers_from r (None ∷ places) = signers_from (r + 1) places
signers_from r (Some x ∷ places) = r ∷ signers_from (r + 1) places

-- the number of elements that pass the test
abbrev pub count_where : {X : Type 0} → (X → Bool) → List X → ℕ
count_where test xs = length (filter test xs)
