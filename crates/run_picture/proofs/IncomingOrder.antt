-- Frames in the order of their numbers, then rounds, then indices, and what a binary search finds among them.
use Rattle.std.proofs.Common.{◌≡◌, ◌∙◌, ℕ, ◌+◌, ◌-◌, ◌<◌, ◌≤◌, List, length, get_or, refl, sym, ap, ◌⊎◌, inl, inr, Bool, true, false, ◌&&◌}
use Rattle.std.proofs.Common.{◌||◌, cond, arith}
use Rattle.std.specs.Prelude.{nat_lt, ◌==◌, slice_index_or, Some, slice_get, None}
use Rattle.std.specs.List.{Contains}
use Rattle.std.specs.Cmp.{IsTotalOrder}
use Rattle.std.specs.List.Sorted.{IsPartitionPoint, IsPartitionedBy, IsPermutation, IsSortedBy}
use Rattle.std.specs.declared.cmp.Ordering.{Ordering}
use Rattle.std.specs.declared.cmp.Ordering.TheVariants.{Less, Equal, Greater}
use Rattle.std.specs.Ordering.{nat_cmp, ordering_then, is_lt}
use Rattle.std.proofs.lemmas.Cmp.{nat_cmp_total, on_total, then_total}
use Rattle.std.proofs.lemmas.List.Sorted.{ranks_by, sorted_far, All-permutation, Contains-permutation}
use Rattle.std.proofs.lemmas.Option.{slice_get-get_or, slice_get_within, get_or_from_slice_get}
use Rattle.run_picture.specs.declared.incoming.IncomingFrame.{IncomingFrame}
use Rattle.run_picture.specs.declared.sent_frames.SentFrame.{SentFrame}
use Rattle.run_picture.specs.Incoming.{AreIncoming, AreIncomingTo, IsIncoming, incoming_frame, comes_before, is_before, IsInOrder}
use Rattle.run_picture.specs.Incoming.{IsNearestRound, IsFirstIndex, IsNoFarther}

-- ---- the tests as facts

-- a frame that doesn't come before another
abbrev pub NotBefore : IncomingFrame → IncomingFrame → Type 0
NotBefore y x = (x.number < y.number) ⊎ ((x.number ≡ y.number) × ((x.round < y.round) ⊎ ((x.round ≡ y.round) × (x.sent ≤ y.sent))))

not_before : (a b e f m n : ℕ) → (nat_lt a b || ((a == b) && (nat_lt e f || ((e == f) && nat_lt m n)))) ≡ false
    → (b < a) ⊎ ((b ≡ a) × ((f < e) ⊎ ((f ≡ e) × (n ≤ m))))
not_before a b e f m n h = grind (arith)

before_is : (a b e f : ℕ) → (nat_lt a b || ((a == b) && nat_lt e f)) ≡ true → (a < b) ⊎ ((a ≡ b) × (e < f))
before_is a b e f h = grind (arith)

before_isn't : (a b e f : ℕ) → (nat_lt a b || ((a == b) && nat_lt e f)) ≡ false → (b < a) ⊎ ((a ≡ b) × (f ≤ e))
before_isn't a b e f h = grind (arith)

is_before_from : (a b e f : ℕ) → (a < b) ⊎ ((a ≡ b) × (e < f)) → (nat_lt a b || ((a == b) && nat_lt e f)) ≡ true
is_before_from a b e f h = grind (arith)

-- a frame that is not after one before a round of a number is itself before it
before_earlier : (number c : ℕ) (x y : IncomingFrame) → comes_before y x ≡ false → is_before number c y ≡ true → is_before number c x ≡ true
before_earlier number c x y order h =
    is_before_from x.number number x.round c
    (joins (not_before y.number x.number y.round x.round y.sent x.sent order) (before_is y.number number y.round c h))
  where
    joins : NotBefore y x → (y.number < number) ⊎ ((y.number ≡ number) × (y.round < c))
        → (x.number < number) ⊎ ((x.number ≡ number) × (x.round < c))
    joins a b = grind (arith)

-- frames in order can be searched
pub searchable : (frames : List IncomingFrame) (number c : ℕ) → IsInOrder frames → IsPartitionedBy (is_before number c) frames
searchable frames number c order = λ i j d low below h.
    before_earlier number c (slice_index_or frames i d) (slice_index_or frames j d) (order i j d low below) h

-- ---- what is found in frames that are in order

-- the frame at an index
stands : (frames : List IncomingFrame) (k : ℕ) (x : IncomingFrame) → slice_get frames k ≡ Some x → Contains frames x
stands frames k x at = (k, slice_get_within frames k x at, get_or_from_slice_get frames k x x at)

module _ (frames : List IncomingFrame) (number c : ℕ) (order : IsInOrder frames) where
  -- of two frames the one with the lower index isn't after the other
  ordered : (i j : ℕ) (x y : IncomingFrame) → i ≤ j → slice_get frames i ≡ Some x → slice_get frames j ≡ Some y → NotBefore y x
  ordered i j x y low at_i at_j =
      not_before y.number x.number y.round x.round y.sent x.sent
      (ap (λ (z : IncomingFrame). comes_before z x) (sym (get_or_from_slice_get frames j y x at_j))
      ∙ ap (comes_before (get_or frames j x)) (sym (get_or_from_slice_get frames i x x at_i))
      ∙ order i j x low (slice_get_within frames j y at_j))

  -- a frame that is there, by its index
  indexed : (y : IncomingFrame) → Contains frames y → (k : ℕ) × (slice_get frames k ≡ Some y)
  indexed y h = (h.0, slice_get-get_or frames h.0 y h.1 ∙ ap (λ (z : IncomingFrame). Some z) h.2)

  module _ (end : ℕ) (bound : end ≤ length frames)
      (parts : IsPartitionPoint (λ x. is_before number c x ≡ true) (λ x. is_before number c x ≡ false) frames end) where
    early : (k : ℕ) (x : IncomingFrame) → k < end → slice_get frames k ≡ Some x
        → (x.number < number) ⊎ ((x.number ≡ number) × (x.round < c))
    early k x below at =
        before_is x.number number x.round c
        (ap (is_before number c) (sym (get_or_from_slice_get frames k x x at)) ∙ parts.0 k x (omega arith) below)

    late : (k : ℕ) (x : IncomingFrame) → end ≤ k → slice_get frames k ≡ Some x → (number < x.number) ⊎ ((x.number ≡ number) × (c ≤ x.round))
    late k x above at =
        before_isn't x.number number x.round c
        (ap (is_before number c) (sym (get_or_from_slice_get frames k x x at)) ∙ parts.1 k x above (slice_get_within frames k x at))

    -- an index is below the end or not
    split : (k : ℕ) → (k < end) ⊎ (end ≤ k)
    split k = grind (arith)

-- ---- the nearest round: the end is that of the frames before round c + 1

module _ (frames : List IncomingFrame) (number c : ℕ) (order : IsInOrder frames) (end : ℕ) (bound : end ≤ length frames)
    (parts : IsPartitionPoint (λ x. is_before number (c + 1) x ≡ true) (λ x. is_before number (c + 1) x ≡ false) frames end) where
  -- the last frame up to round c has the number
  pub latest_is : (x : IncomingFrame) → 0 < end → slice_get frames (end - 1) ≡ Some x → x.number ≡ number
      → IsNearestRound frames number c (Some x.round)
  latest_is x some at has = ((x, (stands frames (end - 1) x at, has, refl)), near)
    where
      x_early : x.round ≤ c
      x_early = let h = early frames number (c + 1) order end bound parts (end - 1) x (omega (arith, some)) at in grind (arith)

      below : (y : IncomingFrame) → NotBefore x y → y.number ≡ number → IsNoFarther c x.round y.round
      below y h is = let less : y.round ≤ x.round = grind (arith) in record {
        up_to = λ r. (less, x_early);
        later =
            λ l. absurd (omega (arith, l, less, x_early));
      }

      above : (y : IncomingFrame) → (number < y.number) ⊎ ((y.number ≡ number) × (c + 1 ≤ y.round)) → y.number ≡ number
          → IsNoFarther c x.round y.round
      above y h is =
          let more : c + 1 ≤ y.round = grind (arith) in
          record { up_to = λ r. absurd (omega (arith, r, more)); later = λ l. omega (arith, l, x_early) }

      near : (y : IncomingFrame) → Contains frames y → y.number ≡ number → IsNoFarther c x.round y.round
      near y h is =
          let place = indexed frames number c order y h in
          elim (split frames number (c + 1) order end bound parts place.0) [
            | inl low ↦ below y (ordered frames number c order place.0 (end - 1) y x (omega (arith, low)) place.1 at) is
            | inr high ↦ above y (late frames number (c + 1) order end bound parts place.0 y high place.1) is
          ]

  -- no frame up to round c has the number
  none_early : ((x : IncomingFrame) → 0 < end → slice_get frames (end - 1) ≡ Some x → x.number ≡ number → ⊥)
      → (y : IncomingFrame) (k : ℕ) → slice_get frames k ≡ Some y → y.number ≡ number → end ≤ k
  none_early none y k at is = elim (split frames number (c + 1) order end bound parts k) [
    | inl low ↦
        let z : IncomingFrame = get_or frames (end - 1) y in
        let at_z : slice_get frames (end - 1) ≡ Some z = slice_get-get_or frames (end - 1) y (omega (arith, low, bound)) in
        let z_early = early frames number (c + 1) order end bound parts (end - 1) z (omega (arith, low)) at_z in
        let above = ordered frames number c order k (end - 1) y z (omega (arith, low)) at at_z in
        absurd (none z (omega (arith, low)) at_z (same z above z_early))
    | inr high ↦ high
  ]
    where
      same : (z : IncomingFrame) → NotBefore z y → (z.number < number) ⊎ ((z.number ≡ number) × (z.round < c + 1)) → z.number ≡ number
      same z above z_early = grind (arith)

  -- the first frame after round c has the number
  pub earliest_is : (x : IncomingFrame) → ((x : IncomingFrame) → 0 < end → slice_get frames (end - 1) ≡ Some x → x.number ≡ number → ⊥)
      → slice_get frames end ≡ Some x → x.number ≡ number → IsNearestRound frames number c (Some x.round)
  earliest_is x none at has = (
    (x, (stands frames end x at, has, refl)),
    λ y h is.
        let place = indexed frames number c order y h in
        near y (ordered frames number c order end place.0 x y (none_early none y place.0 place.1 is) at place.1) is,
  )
    where
      x_late : c + 1 ≤ x.round
      x_late = let h = late frames number (c + 1) order end bound parts end x (omega arith) at in grind (arith)

      near : (y : IncomingFrame) → NotBefore y x → y.number ≡ number → IsNoFarther c x.round y.round
      near y h is =
          let more : x.round ≤ y.round = grind (arith) in
          record { up_to = λ r. absurd (omega (arith, r, more, x_late)); later = λ l. more }

  -- no frame has the number
  pub none_is : ((x : IncomingFrame) → 0 < end → slice_get frames (end - 1) ≡ Some x → x.number ≡ number → ⊥)
      → ((x : IncomingFrame) → slice_get frames end ≡ Some x → x.number ≡ number → ⊥) → IsNearestRound frames number c None
  none_is none no_next y h is =
      let place = indexed frames number c order y h in
      let high = none_early none y place.0 place.1 is in
      let z : IncomingFrame = get_or frames end y in
      let at_z : slice_get frames end ≡ Some z = slice_get-get_or frames end y
      (omega (arith, high, slice_get_within frames place.0 y place.1)) in
      no_next z at_z (same z (ordered frames number c order end place.0 z y high at_z place.1)
      (late frames number (c + 1) order end bound parts end z (omega arith) at_z))
    where
      same : (z : IncomingFrame) → NotBefore y z → (number < z.number) ⊎ ((z.number ≡ number) × (c + 1 ≤ z.round)) → z.number ≡ number
      same z above z_late = grind (arith)

-- ---- the first index: the end is that of the frames before round b, in which a frame with the number is sent

module _ (frames : List IncomingFrame) (number b : ℕ) (order : IsInOrder frames) (end : ℕ) (bound : end ≤ length frames)
    (parts : IsPartitionPoint (λ x. is_before number b x ≡ true) (λ x. is_before number b x ≡ false) frames end)
    (one : (x : IncomingFrame) × (Contains frames x × (x.number ≡ number) × (x.round ≡ b))) where
  from_end : (y : IncomingFrame) (k : ℕ) → slice_get frames k ≡ Some y → y.number ≡ number → y.round ≡ b → end ≤ k
  from_end y k at is in_round = elim (split frames number b order end bound parts k) [
    | inl low ↦ absurd (none (early frames number b order end bound parts k y low at))
    | inr high ↦ high
  ]
    where
      none : (y.number < number) ⊎ ((y.number ≡ number) × (y.round < b)) → ⊥
      none h = grind (arith)

  pub end_within : end < length frames
  end_within =
      let place = indexed frames number b order one.0 one.1.0 in
      let high = from_end one.0 place.0 place.1 one.1.1 one.1.2 in
      omega (arith, high, slice_get_within frames place.0 one.0 place.1)

  pub first_is : (z : IncomingFrame) → slice_get frames end ≡ Some z → IsFirstIndex frames number b z.sent
  first_is z at =
      let place = indexed frames number b order one.0 one.1.0 in
      let high = from_end one.0 place.0 place.1 one.1.1 one.1.2 in
      let both = same (ordered frames number b order end place.0 z one.0 high at place.1)
      (late frames number b order end bound parts end z (omega arith) at)
      one.1.1 one.1.2 in (
        (z, (stands frames end z at, both.0, both.1, refl)),
        λ y h is in_round.
            let there = indexed frames number b order y h in
            least y (ordered frames number b order end there.0 z y
            (from_end y there.0 there.1 is in_round) at there.1) is in_round both.0 both.1,
      )
    where
      same : NotBefore one.0 z → (number < z.number) ⊎ ((z.number ≡ number) × (b ≤ z.round)) → one.0.number ≡ number → one.0.round ≡ b
          → (z.number ≡ number) × (z.round ≡ b)
      same h late is in_round = (grind (arith), grind (arith))

      least : (y : IncomingFrame) → NotBefore y z → y.number ≡ number → y.round ≡ b → z.number ≡ number → z.round ≡ b → z.sent ≤ y.sent
      least y h is in_round z_is z_in = grind (arith)

-- ---- sorted frames are in order

-- by the number, then the round, then the index
abbrev pub frame_cmp : IncomingFrame → IncomingFrame → Ordering
frame_cmp x y = ordering_then (nat_cmp x.number y.number) (ordering_then (nat_cmp x.round y.round) (nat_cmp x.sent y.sent))

frame_cmp_total : IsTotalOrder frame_cmp
frame_cmp_total =
    then_total (on_total (λ (x : IncomingFrame). x.number) nat_cmp_total)
    (then_total (on_total (λ (x : IncomingFrame). x.round) nat_cmp_total) (on_total (λ (x : IncomingFrame). x.sent) nat_cmp_total))

less_is : (x y : IncomingFrame) → is_lt (frame_cmp x y) ≡ comes_before x y
less_is x y = by (nat_lt x.number y.number) (x.number == y.number) (nat_lt x.round y.round) (x.round == y.round) (nat_lt x.sent y.sent)
    (x.sent == y.sent)
  where
    by : (p q r s t u : Bool) → is_lt (ordering_then (cond p Less (cond q Equal Greater))
        (ordering_then (cond r Less (cond s Equal Greater)) (cond t Less (cond u Equal Greater)))) ≡ (p || (q && (r || (s && t))))
    by true q r s t u = refl
    by false false r s t u = refl
    by false true true s t u = refl
    by false true false false t u = refl
    by false true false true true u = refl
    by false true false true false true = refl
    by false true false true false false = refl

in_order : (frames : List IncomingFrame) → IsSortedBy (λ x y. is_lt (frame_cmp x y)) frames → IsInOrder frames
in_order frames sorted = λ i j d low below.
    sym (less_is (get_or frames j d) (get_or frames i d))
    ∙ sorted_far (λ x y. is_lt (frame_cmp x y)) (ranks_by frame_cmp_total (λ (x : IncomingFrame). x)) frames sorted i j d low below

-- a sort keeps the incoming frames, and puts them in order
pub sorted_incoming : (sent : List SentFrame) (numbers : List ℕ) (to : ℕ) (frames sorted : List IncomingFrame)
    → AreIncomingTo sent numbers to (length sent) frames → IsPermutation frames sorted → IsSortedBy (λ x y. is_lt (frame_cmp x y)) sorted
    → AreIncoming sent numbers to sorted
sorted_incoming sent numbers to frames sorted are moved in_order_by = record {
  are = record {
    each = All-permutation (IsIncoming sent numbers to) frames sorted moved are.each;
    all = λ j s below there goes. Contains-permutation frames sorted (incoming_frame numbers j s) moved (are.all j s below there goes);
  };
  order = in_order sorted in_order_by;
}
