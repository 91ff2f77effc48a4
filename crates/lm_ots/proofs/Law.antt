-- A signature leads to the public value of its leaf.
use Rattle.std.proofs.Common.{◌≡◌, ℕ, zero, suc, ◌+◌, ◌-◌, ◌*◌, ◌<◌, ◌≤◌, List, ◌++◌, length, take, drop, map, refl, sym, ap, ◌∙◌, arith}
use Rattle.std.specs.Int.{w32, to_be_bytes}
use Rattle.std.specs.List.{flat_map, range_with_len}
use Rattle.std.proofs.lemmas.List.{take_at, drop_at, append_assoc, length-append}
use Rattle.sha2.proofs.Facts256.{length-sha256}
use Rattle.ledger_model.specs.Signatures.{chain, chain_start, public_value, randomizer, message_digest, digit, part, last_step, leaf_key}
use Rattle.ledger_model.specs.Signatures.{leaf_signature, leaf_candidate, ots_len}
use Rattle.lm_ots.specs.declared.params.Params.{Params}
use Rattle.lm_ots.specs.Parameters.{numbers_of}
use Rattle.lm_ots.specs.Laws.{SignedIsCandidate}
use Rattle.lm_ots.proofs.Coefs.{coef-last}
use Rattle.lm_ots.proofs.Chains.{chain-append, length-chain}
use Rattle.lm_ots.proofs.Parts.{part-after, map-below}

length-randomizer : (id seed : List ℕ) (q : ℕ) → length (randomizer id seed q) ≡ 32
unfolding randomizer
length-randomizer id seed q = length-sha256 _

length-start : (id seed : List ℕ) (q i : ℕ) → length (chain_start id seed q i) ≡ 32
unfolding chain_start
length-start id seed q i = length-sha256 _

-- a digit is at most the last step
pub digit-last : (p : Params) (digest : List ℕ) (i : ℕ) → digit (numbers_of p) digest i ≤ last_step (numbers_of p)
unfolding digit
digit-last p digest i = coef-last p.width _ i

-- the signed value of a chain
end_at : Params → List ℕ → List ℕ → ℕ → List ℕ → ℕ → List ℕ
end_at p id seed q digest i = chain id q i 0 (digit (numbers_of p) digest i) (chain_start id seed q i)

length-end_at : (p : Params) (id seed : List ℕ) (q : ℕ) (digest : List ℕ) (i : ℕ) → length (end_at p id seed q digest i) ≡ 32
unfolding end_at
length-end_at p id seed q digest i = length-chain id q i 0 _ _ (length-start id seed q i)

-- a chain goes on from its signed value to its end
end_at-on : (p : Params) (id seed : List ℕ) (q : ℕ) (digest : List ℕ) (i : ℕ) → let d =
    digit (numbers_of p) digest i in chain id q i d (last_step (numbers_of p) - d) (end_at p id seed q digest i)
    ≡ chain id q i 0 (last_step (numbers_of p)) (chain_start id seed q i)
unfolding end_at
end_at-on p id seed q digest i =
    let d = digit (numbers_of p) digest i in
    let last = last_step (numbers_of p) in
    let bounded = digit-last p digest i in
    let z : 0 + d ≡ d = omega arith in
    let whole : d + (last - d) ≡ last = omega arith in
    let start = chain_start id seed q i in
    ap (λ k. chain id q i k (last - d) (chain id q i 0 d start)) (sym z) ∙ chain-append id q i 0 d (last - d) start
    ∙ ap (λ n. chain id q i 0 n start) whole

pub signed_is_candidate : SignedIsCandidate
unfolding leaf_candidate leaf_signature leaf_key end_at
signed_is_candidate p id seed q message =
    let n = numbers_of p in
    let c = randomizer id seed q in
    let digest = message_digest id q c message in
    let code = to_be_bytes w32 n.ots_code in
    let ends = end_at p id seed q digest in
    let rest = flat_map ends (range_with_len 0 n.chains) in
    let signature = code ++ c ++ rest in
    let first : part signature 4 0 ≡ c =
    ap (λ zs. take 32 (drop 4 zs)) (append_assoc code c rest) ∙ ap (take 32) (drop_at code (c ++ rest) 4 refl)
    ∙ take_at c rest 32 (length-randomizer id seed q) in
    let signed : message_digest id q (part signature 4 0) message ≡ digest = ap (λ zs. message_digest id q zs message) first in
    let long : length (code ++ c) ≡ 36 = omega (arith, length-append code c, length-randomizer id seed q) in
    let goes_on = λ (d : List ℕ) (i : ℕ). chain id q i (digit n d i) (last_step n - digit n d i) (part signature 36 i) in
    let whole = λ (i : ℕ). chain id q i 0 (last_step n) (chain_start id seed q i) in
    let each : (i : ℕ) → i < n.chains → goes_on digest i ≡ whole i =
    λ i below. ap (λ zs. chain id q i (digit n digest i) (last_step n - digit n digest i) zs)
    (part-after (code ++ c) ends (length-end_at p id seed q digest) n.chains i 36 long below) ∙ end_at-on p id seed q digest i in
    ap (λ d. public_value id q (map (goes_on d) (range_with_len 0 n.chains))) signed
    ∙ ap (public_value id q) (map-below (goes_on digest) whole n.chains each)

-- the length of items of 32 bytes each, joined
pub length-flat_map : (g : ℕ → List ℕ) → ((i : ℕ) → length (g i) ≡ 32) → (n a : ℕ) → length (flat_map g (range_with_len a n)) ≡ 32 * n
length-flat_map g long zero a = refl
length-flat_map g long (suc n) a =
    omega (arith, length-append (g a) (flat_map g (range_with_len (a + 1) n)), long a, length-flat_map g long n (a + 1))

-- the length of a leaf's signature
pub length-leaf_signature : (p : Params) (id seed : List ℕ) (q : ℕ) (message : List ℕ)
    → length (leaf_signature (numbers_of p) id seed q message) ≡ ots_len (numbers_of p)
unfolding leaf_signature end_at
length-leaf_signature p id seed q message =
    let n = numbers_of p in
    let c = randomizer id seed q in
    let ends = end_at p id seed q (message_digest id q c message) in
    let code = to_be_bytes w32 n.ots_code in
    let rest = flat_map ends (range_with_len 0 n.chains) in
    omega (
      arith,
      length-append (code ++ c) rest,
      length-append code c,
      length-randomizer id seed q,
      length-flat_map ends
          (length-end_at p id seed q (message_digest id q c message)) n.chains 0,
    )

-- a leaf's signature begins with its type code
pub take-leaf_signature : (p : Params) (id seed : List ℕ) (q : ℕ) (message : List ℕ)
    → take 4 (leaf_signature (numbers_of p) id seed q message) ≡ to_be_bytes w32 (numbers_of p).ots_code
unfolding leaf_signature
take-leaf_signature p id seed q message = refl
