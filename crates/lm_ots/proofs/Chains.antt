-- Chains step by step.
use Rattle.std.proofs.Common.{◌≡◌, ◌≤◌, ℕ, zero, suc, ◌+◌, ◌%◌, List, [], ◌∷◌, ◌++◌, length, take, drop, map, slice_index, refl, sym, ap}
use Rattle.std.proofs.Common.{◌∙◌, arith}
use Rattle.std.proofs.lemmas.List.{take_at, drop_at, get_or_at, drop_more, take-append-drop, length-append, length-take-le, append_assoc}
use Rattle.std.specs.Int.{w16, w32, to_be_bytes}
use Rattle.std.specs.List.{flat_map, range_with_len}
use Rattle.sha2.specs.Sha256.{sha256}
use Rattle.sha2.proofs.Facts256.{length-sha256}
use Rattle.sha_lanes.specs.Turns.{next_message, after_turns}
use Rattle.sha_lanes.proofs.TurnLemmas.{length-after}
use Rattle.ledger_model.specs.Signatures.{chain, chain_start}
use Rattle.lm_ots.specs.Steps.{place_in, step_in, step_input, rest_of, walk, stepped, IsNext}

-- steps after steps
pub chain-append : (id : List ℕ) (q i j m n : ℕ) (value : List ℕ)
    → chain id q i (j + m) n (chain id q i j m value) ≡ chain id q i j (m + n) value
unfolding chain
chain-append id q i j zero n value =
    let e : j + 0 ≡ j = omega arith in
    let z : 0 + n ≡ n = omega arith in
    rw (e, z)
chain-append id q i j (suc m) n value =
    let e : j + suc m ≡ j + 1 + m = omega arith in
    let s : suc m + n ≡ suc (m + n) = omega arith in
    rw (e, s) (chain-append id q i (j + 1) m n _)

-- a chain keeps the length of its values
pub length-chain : (id : List ℕ) (q i j n : ℕ) (value : List ℕ) → length value ≡ 32 → length (chain id q i j n value) ≡ 32
unfolding chain
length-chain id q i j zero value whole = whole
length-chain id q i j (suc n) value whole = length-chain id q i (j + 1) n _ (length-sha256 _)

-- steps over the bytes that name a chain, none of which comes after step 255, are steps of that chain
pub walk-chain : (id : List ℕ) (q i j n : ℕ) (value : List ℕ) → j + n ≤ 256
    → walk (id ++ to_be_bytes w32 q ++ to_be_bytes w16 i) j n value ≡ chain id q i j n value
unfolding walk chain
walk-chain id q i j zero value inside = refl
walk-chain id q i j (suc zero) value inside = refl
walk-chain id q i j (suc (suc n)) value inside =
    let next : (j + 1) % 256 ≡ j + 1 = omega arith in
    ap (λ k. walk (id ++ to_be_bytes w32 q ++ to_be_bytes w16 i) k (suc n)
    (stepped (id ++ to_be_bytes w32 q ++ to_be_bytes w16 i) j value)) next
    ∙ walk-chain id q i (j + 1) (suc n) _ (omega arith)

-- steps from the one that makes the chain's first element from the seed
pub walk-begun : (id seed : List ℕ) (q i n : ℕ) → n ≤ 255
    → walk (id ++ to_be_bytes w32 q ++ to_be_bytes w16 i) 255 (n + 1) seed ≡ chain id q i 0 n (chain_start id seed q i)
unfolding walk chain_start
walk-begun id seed q i n inside =
    let place = id ++ to_be_bytes w32 q ++ to_be_bytes w16 i in
    let one : n + 1 ≡ suc n = omega arith in
    ap (λ k. walk place 255 k seed) one ∙ walk-chain id q i 0 n _ (omega arith)

-- a message is its place, its step and its value
message-parts : (m : List ℕ) → length m ≡ 55 → place_in m ++ (step_in m ∷ []) ++ step_input m ≡ m
message-parts m whole =
    append_assoc (take 22 m) (slice_index m 22 ∷ []) (drop 23 m) ∙ ap (λ zs. take 22 m ++ zs) (sym (drop_more m 22 0 (omega arith)))
    ∙ take-append-drop 22 m

-- one step less is left in the next message
pub rest-next : (before after : List ℕ) (n : ℕ) → IsNext before after → rest_of after n ≡ rest_of before (suc n)
unfolding walk
rest-next before after n m =
    (λ i. walk (m.place i) (m.step i) n (m.value i))
    ∙ ap (λ v. walk (place_in before) ((step_in before + 1) % 256) n (sha256 v)) (sym (message-parts before m.whole))

-- no step leaves the value
pub rest-none : (m : List ℕ) → step_input m ≡ rest_of m 0
unfolding walk
rest-none m = refl

-- the place in a message that is made of a place, a step and a value
pub place-made : (place value : List ℕ) (j : ℕ) → length place ≡ 22 → place_in (place ++ (j ∷ []) ++ value) ≡ place
place-made place value j long = ap (take 22) (append_assoc place (j ∷ []) value) ∙ take_at place (j ∷ value) 22 long

-- the steps of a message that is made of a place, a step and a value
pub rest-made : (place value : List ℕ) (j n : ℕ) → length place ≡ 22 → rest_of (place ++ (j ∷ []) ++ value) n ≡ walk place j n value
rest-made place value j n long =
    let e = append_assoc place (j ∷ []) value in
    let at = place-made place value j long in
    let step : step_in (place ++ (j ∷ []) ++ value) ≡ j = ap (λ m. slice_index m 22) e ∙ get_or_at place j value 0 22 long in
    let behind : step_input (place ++ (j ∷ []) ++ value) ≡ value =
    drop_at (place ++ (j ∷ [])) value 23 (omega (arith, length-append place (j ∷ []))) in
    (λ i. walk (at i) (step i) n (behind i))

-- strings that a function gives, joined
pub flat_map-map : {X Y : Type 0} (f : X → List Y) → (xs : List X) → flat_map (λ (end : List Y). end) (map f xs) ≡ flat_map f xs
flat_map-map f [] = refl
flat_map-map f (x ∷ xs) = ap (λ zs. f x ++ zs) (flat_map-map f xs)

-- the steps of the message that makes a chain's first element from the seed lead up the chain
pub rest-begun : (id seed : List ℕ) (q i n : ℕ) → length id ≡ 16 → n ≤ 255
    → rest_of (id ++ to_be_bytes w32 q ++ to_be_bytes w16 i ++ (255 ∷ []) ++ seed) (n + 1) ≡ chain id q i 0 n (chain_start id seed q i)
rest-begun id seed q i n named inside =
    let place = id ++ to_be_bytes w32 q ++ to_be_bytes w16 i in
    let long : length place ≡ 22 =
    omega (arith, length-append (id ++ to_be_bytes w32 q) (to_be_bytes w16 i), length-append id (to_be_bytes w32 q)) in
    rest-made place seed 255 (n + 1) long ∙ walk-begun id seed q i n inside

-- the message of a chain's next step
is-next : (m : List ℕ) → length m ≡ 55 → IsNext m (next_message m)
unfolding next_message
is-next m whole =
    let front = take 22 m ++ ((slice_index m 22 + 1) % 256 ∷ []) in
    let l = length-take-le 22 m (omega arith) in
    let e = append_assoc (take 22 m) ((slice_index m 22 + 1) % 256 ∷ []) (sha256 m) in
    record {
      whole = whole;
      place = place-made (take 22 m) (sha256 m) ((slice_index m 22 + 1) % 256) l;
      step = ap (λ xs. slice_index xs 22) e ∙ get_or_at (take 22 m) ((slice_index m 22 + 1) % 256) (sha256 m) 0 22 l;
      value = drop_at front (sha256 m) 23 (omega (arith, length-append (take 22 m) ((slice_index m 22 + 1) % 256 ∷ [])));
    }

-- the steps that are left after some
pub rest-after : (m : List ℕ) (count n : ℕ) → length m ≡ 55 → rest_of (after_turns count m) n ≡ rest_of m (count + n)
unfolding after_turns
rest-after m zero n whole = let e : n ≡ 0 + n = omega arith in ap (rest_of m) e
rest-after m (suc count) n whole =
    let e : count + suc n ≡ suc count + n = omega arith in
    rest-next (after_turns count m) (next_message (after_turns count m)) n (is-next (after_turns count m) (length-after m count whole))
    ∙ rest-after m count (suc n) whole ∙ ap (rest_of m) e

-- and the chain
pub place-after : (m : List ℕ) (count : ℕ) → length m ≡ 55 → place_in (after_turns count m) ≡ place_in m
unfolding after_turns
place-after m zero whole = refl
place-after m (suc count) whole = (is-next (after_turns count m) (length-after m count whole)).place ∙ place-after m count whole
