-- The nearest of the incoming frames is the source.
use Rattle.std.proofs.Common.{◌≡◌, ◌∙◌, ℕ, zero, suc, ◌<◌, ◌≤◌, List, [], ◌∷◌, length, get_or, refl, sym, ap, subst, inl, inr, Bool, true}
use Rattle.std.proofs.Common.{false, ◌&&◌, cond, arith}
use Rattle.std.specs.Prelude.{Option, Some, None, slice_get, map, filter, nat_eq, nat_lt, ◌==◌, option_and_then}
use Rattle.std.specs.List.{AllByRecursion, Contains, IsDistinct, list_any, position}
use Rattle.std.proofs.lemmas.Bool.{and_parts, and_from, eqb-true, eq-eqb, or_left, or_right}
use Rattle.std.proofs.lemmas.List.Elements.{All-contains}
use Rattle.std.proofs.lemmas.List.Sums.{position_or_len_is}
use Rattle.std.proofs.lemmas.Option.{slice_get-get_or, slice_get_within, get_or_from_slice_get, same_Some}
use Rattle.std.proofs.lemmas.Map.Keys.{any_passes_from_place}
use Rattle.ledger_model.specs.Addressing.{goes_to}
use Rattle.locked_replica.proofs.Found.{bytes_equal}
use Rattle.ledger_model.specs.Values.{same_bytes}
use Rattle.ledger_model.specs.Notes.{Has}
use Rattle.ledger_model.specs.Pools.{is_among}
use Rattle.ledger_model.proofs.Lists.{pointwise_refl, has_map, filter_has, has_index, each_at}
use Rattle.run_picture.specs.declared.sent_frames.SentFrame.{SentFrame}
use Rattle.run_picture.specs.declared.deliveries.Delivery.{Delivery}
use Rattle.run_picture.specs.declared.incoming.IncomingFrame.{IncomingFrame}
use Rattle.run_picture.specs.Incoming.{IsNumbering, IsIncoming, AreIncoming, incoming_frame, IsNearest, IsNearestRound, IsFirstIndex}
use Rattle.run_picture.specs.Incoming.{IsNoFarther}
use Rattle.run_picture.specs.Sources.{may_come_from, source_rounds, first_source, nearest_round, source_of}
use Rattle.run_picture.proofs.NearestRounds.{nearest_is, no_nearest}

same_itself : (xs : List ℕ) → same_bytes xs xs ≡ true
same_itself xs = pointwise_refl nat_eq (λ n. eq-eqb n n refl) xs

-- ---- elements by their index

-- the first element that passes a test
position_is : {X : Type 0} (p : X → Bool) (xs : List X) (i : ℕ) (x : X) → slice_get xs i ≡ Some x → p x ≡ true
    → ((j : ℕ) (y : X) → j < i → slice_get xs j ≡ Some y → p y ≡ false) → position p xs ≡ Some i
position_is p xs i x at passes before =
    ap (λ n. cond (nat_lt n (length xs)) (Some n) None)
    (position_or_len_is p xs i x (omega (arith, inside))
    (λ k below. before k (get_or xs k x) below (slice_get-get_or xs k x (omega (arith, inside, below))))
    (λ b. ap p (get_or_from_slice_get xs i x x at) ∙ passes))
    ∙ ap (λ b. cond b (Some i) None) (is_below i (length xs) inside)
  where
    inside : i < length xs
    inside = slice_get_within xs i x at

    is_below : (a n : ℕ) → a < n → nat_lt a n ≡ true
    is_below a n h = grind (arith)

-- of different strings, two that are the same are at one position
distinct_same : (xs : List (List ℕ)) (i j : ℕ) (a b : List ℕ) → IsDistinct same_bytes xs → slice_get xs i ≡ Some a → slice_get xs j ≡ Some b
    → a ≡ b → i ≡ j
unfolding IsDistinct
distinct_same [] i j a b distinct at_i at_j same = absurd (cc)
distinct_same (x ∷ xs) zero zero a b distinct at_i at_j same = refl
distinct_same (x ∷ xs) zero (suc j) a b distinct at_i at_j same =
    absurd (differ (each_at (λ y. same_bytes x y ≡ false) xs j b distinct.0 at_j) (same_Some x a at_i ∙ same))
  where
    differ : same_bytes x b ≡ false → x ≡ b → ⊥
    differ not is = let both : same_bytes x b ≡ true = ap (same_bytes x) (sym is) ∙ same_itself x in cc
distinct_same (x ∷ xs) (suc i) zero a b distinct at_i at_j same =
    absurd (differ (each_at (λ y. same_bytes x y ≡ false) xs i a distinct.0 at_i) (same_Some x b at_j ∙ sym same))
  where
    differ : same_bytes x a ≡ false → x ≡ a → ⊥
    differ not is = let both : same_bytes x a ≡ true = ap (same_bytes x) (sym is) ∙ same_itself x in cc
distinct_same (x ∷ xs) (suc i) (suc j) a b distinct at_i at_j same = ap suc (distinct_same xs i j a b distinct.1 at_i at_j same)

-- ---- the rounds of the frames that may be the source

rounds_from : (sent : List SentFrame) (d : Delivery) (j : ℕ) (s : SentFrame) → slice_get sent j ≡ Some s → may_come_from d s ≡ true
    → Has (source_rounds sent d) s.at.round
rounds_from [] d j s at may = absurd (cc)
rounds_from (t ∷ ts) d zero s at may =
    subst (λ (x : SentFrame). Has (source_rounds (x ∷ ts) d) s.at.round) (sym (same_Some t s at)) (rw may (inl refl))
rounds_from (t ∷ ts) d (suc j) s at may = by (rounds_from ts d j s at may) (may_come_from d t)
  where
    by : Has (source_rounds ts d) s.at.round → (b : Bool) → Has
        (map (λ (x : SentFrame). x.at.round) (cond b (t ∷ filter (may_come_from d) ts) (filter (may_come_from d) ts))) s.at.round
    by later true = inr later
    by later false = later

rounds_to : (sent : List SentFrame) (d : Delivery) (r : ℕ) → Has (source_rounds sent d) r
    → (j : ℕ) × ((s : SentFrame) × (slice_get sent j ≡ Some s) × (may_come_from d s ≡ true) × (s.at.round ≡ r))
rounds_to sent d r h =
    let mapped = has_map (λ (s : SentFrame). s.at.round) (filter (may_come_from d) sent) r h in
    let kept = filter_has (may_come_from d) sent mapped.0 mapped.1.0 in
    let place = has_index sent mapped.0 kept.0 in
    (place.0, (mapped.0, place.1.1, kept.1, mapped.1.1))

-- ---- the incoming frames are the frames that may be the source

module _ (sent : List SentFrame) (strings : List (List ℕ)) (numbers : List ℕ) (d : Delivery) (frames : List IncomingFrame)
    (numbering : IsNumbering sent strings numbers) (incoming : AreIncoming sent numbers d.at.replica frames) where
  -- a frame that may be the source, by the number of the delivery's bytes
  comes_in : (number : ℕ) → slice_get strings number ≡ Some d.bytes → (j : ℕ) (s : SentFrame) → slice_get sent j ≡ Some s
      → may_come_from d s ≡ true → Contains frames (incoming_frame numbers j s) × (get_or numbers j 0 ≡ number)
  comes_in number known j s at may =
      let parts = and_parts (same_bytes s.bytes d.bytes) (goes_to s.addressee s.at.replica d.at.replica) may in (
        incoming.are.all j s (slice_get_within sent j s at) at parts.1,
        distinct_same strings (get_or numbers j 0) number s.bytes d.bytes numbering.distinct (numbering.bytes_at j s at) known
            (bytes_equal s.bytes d.bytes parts.0),
      )

  -- and the other way round
  may_come : (number : ℕ) → slice_get strings number ≡ Some d.bytes → (x : IncomingFrame) → Contains frames x → x.number ≡ number
      → (s : SentFrame) × (slice_get sent x.sent ≡ Some s) × (may_come_from d s ≡ true) × (s.at.round ≡ x.round)
  may_come number known x among has =
      let is = All-contains (IsIncoming sent numbers d.at.replica) frames x incoming.are.each among in
      let here : get_or numbers x.sent 0 ≡ number = sym (ap (λ (y : IncomingFrame). y.number) is.is) ∙ has in
      let bytes : is.frame.bytes ≡ d.bytes =
      same_Some is.frame.bytes d.bytes (sym (numbering.bytes_at x.sent is.frame is.at) ∙ ap (slice_get strings) here ∙ known) in (
        is.frame,
        is.at,
        and_from (same_bytes is.frame.bytes d.bytes) (goes_to is.frame.addressee is.frame.at.replica d.at.replica)
            (ap (λ b. same_bytes b d.bytes) bytes ∙ same_itself d.bytes) is.goes,
        sym (ap (λ (y : IncomingFrame). y.round) is.is),
      )

  -- no frame has the delivery's bytes
  pub unknown_source : is_among strings d.bytes ≡ false → None ≡ source_of sent d
  unknown_source unknown =
      sym (ap (option_and_then (first_source sent d)) (no_nearest d.at.round (source_rounds sent d) (λ r h.
      let one = rounds_to sent d r h in
      let parts = and_parts (same_bytes one.1.0.bytes d.bytes) (goes_to one.1.0.addressee one.1.0.at.replica d.at.replica) one.1.2 in
      let same : d.bytes ≡ one.1.0.bytes = sym (bytes_equal one.1.0.bytes d.bytes parts.0) in
      let known = any_passes_from_place (same_bytes d.bytes) strings (get_or numbers one.0 0) one.1.0.bytes
      (numbering.bytes_at one.0 one.1.0 one.1.1)
      (ap (same_bytes d.bytes) (sym same) ∙ same_itself d.bytes) in
      absurd (cc))))

  -- none of the incoming frames has them
  no_source : (number : ℕ) → slice_get strings number ≡ Some d.bytes → IsNearestRound frames number d.at.round None
      → None ≡ source_of sent d
  no_source number known none =
      sym (ap (option_and_then (first_source sent d)) (no_nearest d.at.round (source_rounds sent d) (λ r h.
      let one = rounds_to sent d r h in
      let in_frames = comes_in number known one.0 one.1.0 one.1.1 one.1.2 in
      none (incoming_frame numbers one.0 one.1.0) in_frames.0 in_frames.1)))

  -- the first of the nearest round
  one_source : (number b i : ℕ) → slice_get strings number ≡ Some d.bytes → IsNearestRound frames number d.at.round (Some b)
      → IsFirstIndex frames number b i → Some i ≡ source_of sent d
  one_source number b i known nearest first = sym (ap (option_and_then (first_source sent d)) round ∙ position)
    where
      round : nearest_round d.at.round (source_rounds sent d) ≡ Some b
      round =
          let found = may_come number known nearest.0.0 nearest.0.1.0 nearest.0.1.1 in
          nearest_is d.at.round b (source_rounds sent d)
          (subst (λ r. Has (source_rounds sent d) r) (found.3 ∙ nearest.0.1.2)
          (rounds_from sent d nearest.0.0.sent found.0 found.1 found.2))
          (λ r h. let one = rounds_to sent d r h in
          let in_frames = comes_in number known one.0 one.1.0 one.1.1 one.1.2 in
          subst (λ r. IsNoFarther d.at.round b r) one.1.3
          (nearest.1 (incoming_frame numbers one.0 one.1.0) in_frames.0 in_frames.1))

      test : SentFrame → Bool
      test s = may_come_from d s && (s.at.round == b)

      not_before : (j : ℕ) (s : SentFrame) → j < i → slice_get sent j ≡ Some s → (t : Bool) → test s ≡ t → t ≡ false
      not_before j s below at false is = refl
      not_before j s below at true is =
          let parts = and_parts (may_come_from d s) (s.at.round == b) is in
          let in_frames = comes_in number known j s at parts.0 in
          let least : i ≤ j = first.1 (incoming_frame numbers j s) in_frames.0 in_frames.1 (eqb-true s.at.round b parts.1) in
          absurd (omega arith)

      position : first_source sent d b ≡ Some i
      position =
          let found = may_come number known first.0.0 first.0.1.0 first.0.1.1 in
          position_is (λ (s : SentFrame). may_come_from d s && (s.at.round == b)) sent i found.0
          (subst (λ n. slice_get sent n ≡ Some found.0) first.0.1.3 found.1)
          (and_from (may_come_from d found.0) (found.0.at.round == b) found.2 (eq-eqb found.0.at.round b (found.3 ∙ first.0.1.2)))
          (λ j s below at. not_before j s below at (may_come_from d s && (s.at.round == b)) refl)

  -- the nearest of the incoming frames with the delivery's bytes is the source
  pub source_is : (number : ℕ) (source : Option ℕ) → slice_get strings number ≡ Some d.bytes → IsNearest frames number d.at.round source
      → source ≡ source_of sent d
  source_is number None known nearest = no_source number known nearest
  source_is number (Some i) known nearest = one_source number nearest.0 i known nearest.1.0 nearest.1.1
