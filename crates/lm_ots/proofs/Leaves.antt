-- The public value of a leaf, computed from the ends of its chains joined.
use Rattle.std.proofs.Common.{◌≡◌, ℕ, zero, suc, ◌<◌, ◌≤◌, ◌-◌, ◌*◌, ◌+◌, slice_index_or, length, List, [], ◌∷◌, ◌++◌, map, take, drop, ap}
use Rattle.std.proofs.Common.{◌∙◌, refl, arith}
use Rattle.std.proofs.lemmas.List.{drop-drop, get_or-drop, length-drop}
use Rattle.std.specs.Int.{w16, w32, to_be_bytes}
use Rattle.std.specs.List.{flat_map, range_with_len}
use Rattle.ledger_model.specs.Signatures.{chain, chain_start, coef, checksum, digit, part, public_value, randomizer, message_digest}
use Rattle.ledger_model.specs.Signatures.{leaf_signature, leaf_candidate, last_step}
use Rattle.lm_ots.specs.declared.params.Params.{Params}
use Rattle.lm_ots.specs.Parameters.{numbers_of, bits_of, chains_of, ots_code_of}
use Rattle.lm_ots.proofs.Chains.{flat_map-map}
use Rattle.lm_ots.proofs.Parts.{map-below}

listed-from : (xs : List (List ℕ)) (f : ℕ → List ℕ) (n a : ℕ) → n ≤ length xs → ((i : ℕ) → i < n → slice_index_or xs i [] ≡ f (a + i))
    → take n xs ≡ map f (range_with_len a n)
listed-from xs f zero a inside each = refl
listed-from [] f (suc n) a inside each = absurd (omega arith)
listed-from (x ∷ xs) f (suc n) a inside each =
    let here : x ≡ f a = each 0 (omega arith) ∙ ap f (omega arith) in
    let rest = listed-from xs f n (a + 1) (omega arith) (λ i below. each (suc i) (omega arith) ∙ ap f (omega arith)) in
    (λ i. here i ∷ rest i)

-- the ends of the first n chains, if each is a function of its index
pub listed : (xs : List (List ℕ)) (f : ℕ → List ℕ) (n : ℕ) → n ≤ length xs → ((i : ℕ) → i < n → slice_index_or xs i [] ≡ f i)
    → take n xs ≡ map f (range_with_len 0 n)
listed xs f n inside each = listed-from xs f n 0 inside (λ i below. each i below ∙ ap f (omega arith))

-- the same of those from a place on
pub listed-at : (xs : List (List ℕ)) (f : ℕ → List ℕ) (n a : ℕ) → a + n ≤ length xs
    → ((i : ℕ) → i < n → slice_index_or xs (a + i) [] ≡ f i) → take n (drop a xs) ≡ map f (range_with_len 0 n)
listed-at xs f n a inside each = listed (drop a xs) f n (omega (arith, length-drop a xs)) (λ i below. get_or-drop a xs i [] ∙ each i below)

-- the digits of a digest, read from the bytes of the digest and its checksum
pub digit-is : (p : Params) (digest bytes : List ℕ) (used : Params) → used ≡ p
    → bytes ≡ digest ++ to_be_bytes w16 (checksum (numbers_of p) digest) → (i : ℕ)
    → coef bytes i (bits_of used.width) ≡ digit (numbers_of p) digest i
unfolding digit
digit-is p digest bytes used same spelled i =
    ap (λ zs. coef zs i (bits_of used.width)) spelled
    ∙ ap (λ (u : Params). coef (digest ++ to_be_bytes w16 (checksum (numbers_of p) digest)) i (bits_of u.width)) same

-- the signature of a leaf
pub leaf_signature-is : (p : Params) (id seed message code c digest : List ℕ) (ends : List (List ℕ)) (q : ℕ)
    → code ≡ to_be_bytes w32 (ots_code_of p.width) → c ≡ randomizer id seed q → digest ≡ message_digest id q c message
    → ends ≡ map (λ i. chain id q i 0 (digit (numbers_of p) digest i) (chain_start id seed q i)) (range_with_len 0 (chains_of p.width))
    → code ++ c ++ flat_map (λ (part : List ℕ). part) ends ≡ leaf_signature (numbers_of p) id seed q message
unfolding leaf_signature
leaf_signature-is p id seed message code c digest ends q code_is c_is digest_is ends_are =
    let n = numbers_of p in
    let signed = λ (d : List ℕ) (i : ℕ). chain id q i 0 (digit n d i) (chain_start id seed q i) in
    let of_c : digest ≡ message_digest id q (randomizer id seed q) message = digest_is ∙ ap (λ r. message_digest id q r message) c_is in
    let joined : flat_map (λ (part : List ℕ). part) ends ≡ flat_map (signed digest) (range_with_len 0 n.chains) =
    ap (flat_map (λ (part : List ℕ). part)) ends_are ∙ flat_map-map (signed digest) (range_with_len 0 n.chains) in
    (λ i. code_is i ++ c_is i ++ joined i)
    ∙ ap (λ d. to_be_bytes w32 n.ots_code ++ randomizer id seed q ++ flat_map (signed d) (range_with_len 0 n.chains)) of_c

-- the public value that a signature leads to
pub leaf_candidate-is : (p : Params) (id message signature values c digest result : List ℕ) (q : ℕ)
    → c ≡ part signature 4 0 → values ≡ drop 36 signature → digest ≡ message_digest id q c message
    → result ≡ public_value id q (map
    (λ i. chain id q i (digit (numbers_of p) digest i) (last_step (numbers_of p) - digit (numbers_of p) digest i) (part values 0 i))
    (range_with_len 0 (numbers_of p).chains))
    → result ≡ leaf_candidate (numbers_of p) id q message signature
unfolding leaf_candidate
leaf_candidate-is p id message signature values c digest result q c_is values_are digest_is result_is =
    let n = numbers_of p in
    let end = λ (d zs : List ℕ) (i : ℕ). chain id q i (digit n d i) (last_step n - digit n d i) zs in
    let behind : (i : ℕ) → part values 0 i ≡ part signature 36 i = λ i.
    let z : 36 + (0 + 32 * i) ≡ 36 + 32 * i = omega arith in
    ap (λ zs. part zs 0 i) values_are ∙ ap (take 32) (drop-drop (0 + 32 * i) 36 signature) ∙ ap (λ k. take 32 (drop k signature)) z in
    let of_c : digest ≡ message_digest id q (part signature 4 0) message = digest_is ∙ ap (λ r. message_digest id q r message) c_is in
    result_is
    ∙ ap (public_value id q) (map-below (λ i. end digest (part values 0 i) i) (λ i. end digest (part signature 36 i) i) n.chains
    (λ i below. ap (λ zs. end digest zs i) (behind i)))
    ∙ ap (λ d. public_value id q (map (λ i. end d (part signature 36 i) i) (range_with_len 0 n.chains))) of_c
