-- One place for each replica: what is at a place after an element was put into an empty one.
use Rattle.std.proofs.Common.{◌≡◌, ℕ, zero, suc, ◌+◌, ◌<◌, ◌≤◌, List, [], ◌∷◌, length, arith, ◌⊎◌, inl, inr, refl, ap}
use Rattle.std.specs.Prelude.{Option, Some, None, slice_set, replicate}
use Rattle.ledger_model.specs.Notes.{Has}
use Rattle.tally.specs.Tallies.{Places, read_of, all_read}

-- what is at a place afterwards is the new element, or was there before
pub read_put : {X : Type 0} (places : Places X) (r q : ℕ) (x y : X) → read_of (slice_set places r (Some x)) q ≡ Some y
    → ((q ≡ r) × (x ≡ y)) ⊎ (read_of places q ≡ Some y)
read_put [] r q x y h = inr h
read_put (place ∷ places) zero q x y h = grind arith
read_put (place ∷ places) (suc r) q x y h = let rest = read_put places r in grind arith

-- the new element is at its place
pub there_now : {X : Type 0} (places : Places X) (r : ℕ) (x : X) → r < length places → read_of (slice_set places r (Some x)) r ≡ Some x
there_now [] r x below = absurd (omega arith)
there_now (place ∷ places) r x below = let rest = there_now places in grind arith

-- what was at another place is still there
pub there_still : {X : Type 0} (places : Places X) (r q : ℕ) (x y : X) → read_of places r ≡ None → read_of places q ≡ Some y
    → read_of (slice_set places r (Some x)) q ≡ Some y
there_still [] r q x y none some = cc
there_still (place ∷ places) zero q x y none some = grind arith
there_still (place ∷ places) (suc r) q x y none some = let rest = there_still places r in grind arith

-- the other places are as before
pub read_elsewhere : {X : Type 0} (places : Places X) (r q : ℕ) (x : X) → (q ≡ r → ⊥)
    → read_of (slice_set places r (Some x)) q ≡ read_of places q
read_elsewhere [] r q x other = refl
read_elsewhere (place ∷ places) zero zero x other = absurd (other refl)
read_elsewhere (place ∷ places) zero (suc q) x other = refl
read_elsewhere (place ∷ places) (suc r) zero x other = refl
read_elsewhere (place ∷ places) (suc r) (suc q) x other = read_elsewhere places r q x (λ e. other (omega arith))

-- nothing is at a place of a new tally
pub none_there : {X : Type 0} (n r : ℕ) → read_of {X = X} (replicate n None) r ≡ None
none_there zero r = refl
none_there (suc n) zero = refl
none_there (suc n) (suc r) = none_there n r

-- what is put into an empty place is one more that was read
pub read_one_more : {X : Type 0} (places : Places X) (r : ℕ) (x : X) → r < length places → read_of places r ≡ None
    → length (all_read (slice_set places r (Some x))) ≡ length (all_read places) + 1
read_one_more [] r x below none = absurd (omega arith)
read_one_more (None ∷ places) zero x below none = omega arith
read_one_more (Some y ∷ places) zero x below none = cc
read_one_more (None ∷ places) (suc r) x below none = read_one_more places r x (omega arith) none
read_one_more (Some y ∷ places) (suc r) x below none = let rest = read_one_more places r x (omega arith) none in omega (arith, rest)

-- at most one of each place
pub read_few : {X : Type 0} (places : Places X) → length (all_read places) ≤ length places
read_few [] = omega arith
read_few (None ∷ places) = let rest = read_few places in omega (arith, rest)
read_few (Some x ∷ places) = let rest = read_few places in omega (arith, rest)

-- ---- what was read is at a place

-- what was read is at a place
pub read_at : {X : Type 0} (places : List (Option X)) (x : X) → Has (all_read places) x → (r : ℕ) × (read_of places r ≡ Some x)
read_at [] x h = absurd h
read_at (None ∷ places) x h = let p = read_at places x h in (suc p.0, p.1)
read_at (Some y ∷ places) x (inl e) = (0, ap Some e)
read_at (Some y ∷ places) x (inr h) = let p = read_at places x h in (suc p.0, p.1)

-- what is at a place was read
pub at_read : {X : Type 0} (places : List (Option X)) (r : ℕ) (x : X) → read_of places r ≡ Some x → Has (all_read places) x
at_read [] r x h = cc
at_read (place ∷ places) r x h = let rest = at_read places in grind arith
