-- A message of 55 bytes as one block, and its digest.
use Rattle.std.proofs.Common.{◌≡◌, ℕ, ◌/◌, List, [], ◌∷◌, ◌++◌, length, take, drop, sym, ap, ◌∙◌, arith}
use Rattle.std.proofs.lemmas.List.{take_all, take_at, drop_at, drop_all, append-nil, length-append}
use borrow.Rule.Slice.PartMut.{put_mid}
use Rattle.sha2.specs.Sha256.{compress, digest_bytes, hash_after, initial_hash_256, padded_message, padding, sha256}

-- a block that is filled with a message and what follows it
pub filled : (m xs ys zs : List ℕ) → xs ≡ m → length m ≡ 55 → length ys ≡ 9 → put_mid 55 9 (xs ++ ys) zs ≡ m ++ zs
filled m xs ys zs same long rest =
    let whole : length xs ≡ 55 = omega (arith, ap length same) in
    let front : take 55 (xs ++ ys) ≡ m = take_at xs ys 55 whole ∙ same in
    let back : drop 9 (drop 55 (xs ++ ys)) ≡ [] = ap (drop 9) (drop_at xs ys 55 whole) ∙ drop_all 9 ys (omega arith) in
    ap (λ before. before ++ (zs ++ drop 9 (drop 55 (xs ++ ys)))) front ∙ ap (λ after. m ++ (zs ++ after)) back
    ∙ ap (λ after. m ++ after) (append-nil zs)

-- a padded message of 55 bytes is one block
pub padded-one : (m : List ℕ) → length m ≡ 55 → padded_message m ≡ m ++ (0x80 ∷ 0 ∷ 0 ∷ 0 ∷ 0 ∷ 0 ∷ 0 ∷ 0x01 ∷ 0xb8 ∷ [])
padded-one m long = ap (λ n. m ++ padding n) long

pub length-padded : (m : List ℕ) → length m ≡ 55 → length (padded_message m) ≡ 64
length-padded m long = ap length (padded-one m long) ∙ omega (arith, length-append m (0x80 ∷ 0 ∷ 0 ∷ 0 ∷ 0 ∷ 0 ∷ 0 ∷ 0x01 ∷ 0xb8 ∷ []))

-- the digest of such a message is that of the hash value after its block
pub digest-one : (m : List ℕ) → length m ≡ 55 → digest_bytes (compress initial_hash_256 (padded_message m)) 8 ≡ sha256 m
unfolding sha256 hash_after
digest-one m long =
    let block = padded_message m in
    let whole : take 64 block ≡ block = take_all 64 block (omega (arith, length-padded m long)) in
    let one : length block / 64 ≡ 1 = omega (arith, length-padded m long) in
    sym (ap (λ n. digest_bytes (hash_after initial_hash_256 block n) 8) one ∙ ap (λ b. digest_bytes (compress initial_hash_256 b) 8) whole)
