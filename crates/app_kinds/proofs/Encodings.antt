-- The encodings of pairs, of a count and of accounts each determine what they encode.
use Rattle.std.proofs.Common.{◌≡◌, ℕ, ◌^◌, ◌<◌, List, [], ◌∷◌, ◌++◌, length, refl, sym, ap, ◌∙◌, arith, append_assoc}
use Rattle.std.specs.Int.{w32, w64, to_be_bytes, from_be_bytes}
use Rattle.std.specs.List.{flat_map}
use Rattle.std.proofs.Math.Nat.{suc_inj}
use Rattle.std.proofs.lemmas.Nat.{from_be_bytes-to_be_bytes_4, from_be_bytes-to_be_bytes_8}
use Rattle.ledger_model.specs.Kinds.{store_bytes, counter_bytes, purse_bytes}
use Rattle.app_kinds.specs.Sorted.{Pair}
use Rattle.app_kinds.specs.Purses.{FitFourBytes}
use Rattle.app_kinds.proofs.Entries.{pairs_bytes}
use Rattle.app_kinds.proofs.Transfers.{Balance, account_bytes}

-- two lists of one length, each with more behind it
parts-same : (xs ys us vs : List ℕ) → length xs ≡ length ys → xs ++ us ≡ ys ++ vs → (xs ≡ ys) × (us ≡ vs)
parts-same [] [] us vs n e = (refl, e)
parts-same [] (y ∷ ys) us vs n e = absurd (omega (arith, n))
parts-same (x ∷ xs) [] us vs n e = absurd (omega (arith, n))
parts-same (x ∷ xs) (y ∷ ys) us vs n e =
    let first : x ≡ y = cc in
    let tail : xs ++ us ≡ ys ++ vs = cc in
    let rest = parts-same xs ys us vs (suc_inj n) tail in
    let same : xs ≡ ys = rest.0 in
    (cc, rest.1)

-- a piece after its length, with more behind it
pieces-same : (xs ys us vs : List ℕ) → (length xs ∷ xs) ++ us ≡ (length ys ∷ ys) ++ vs → (xs ≡ ys) × (us ≡ vs)
pieces-same xs ys us vs e =
    let long : length xs ≡ length ys = cc in
    let tail : xs ++ us ≡ ys ++ vs = cc in
    parts-same xs ys us vs long tail

pair_bytes-same : (ps qs : List Pair) → pairs_bytes ps ≡ pairs_bytes qs → ps ≡ qs
pair_bytes-same [] [] e = refl
pair_bytes-same [] (q ∷ qs) e = absurd cc
pair_bytes-same (p ∷ ps) [] e = absurd cc
pair_bytes-same (p ∷ ps) (q ∷ qs) e =
    let whole : (length p.0 ∷ p.0) ++ ((length p.1 ∷ p.1) ++ pairs_bytes ps) ≡ (length q.0 ∷ q.0) ++
    ((length q.1 ∷ q.1) ++ pairs_bytes qs) =
    sym (append_assoc (length p.0 ∷ p.0) (length p.1 ∷ p.1) (pairs_bytes ps)) ∙ e
    ∙ append_assoc (length q.0 ∷ q.0) (length q.1 ∷ q.1) (pairs_bytes qs) in
    let keys = pieces-same p.0 q.0 _ _ whole in
    let values = pieces-same p.1 q.1 _ _ (keys.1) in
    let rest = pair_bytes-same ps qs (values.1) in
    λ i. (keys.0 i, values.0 i) ∷ rest i

pub store_bytes-same : (ps qs : List Pair) → store_bytes ps ≡ store_bytes qs → ps ≡ qs
unfolding store_bytes
store_bytes-same ps qs e =
    let tail : to_be_bytes w64 (length ps) ++ pairs_bytes ps ≡ to_be_bytes w64 (length qs) ++ pairs_bytes qs = cc in
    pair_bytes-same ps qs (parts-same (to_be_bytes w64 (length ps)) (to_be_bytes w64 (length qs)) _ _ refl tail).1

pub counter_bytes-same : (m n : ℕ) → m < 2 ^ 64 → n < 2 ^ 64 → counter_bytes m ≡ counter_bytes n → m ≡ n
unfolding counter_bytes
counter_bytes-same m n hm hn e =
    let tail : to_be_bytes w64 m ≡ to_be_bytes w64 n = cc in
    sym (from_be_bytes-to_be_bytes_8 m hm) ∙ ap (from_be_bytes w64) tail ∙ from_be_bytes-to_be_bytes_8 n hn

word-same : (m n : ℕ) (us vs : List ℕ) → m < 2 ^ 32 → n < 2 ^ 32 → to_be_bytes w32 m ++ us ≡ to_be_bytes w32 n ++ vs
    → (m ≡ n) × (us ≡ vs)
word-same m n us vs hm hn e =
    let parts = parts-same (to_be_bytes w32 m) (to_be_bytes w32 n) us vs refl e in
    (sym (from_be_bytes-to_be_bytes_4 m hm) ∙ ap (from_be_bytes w32) (parts.0) ∙ from_be_bytes-to_be_bytes_4 n hn, parts.1)

account_bytes-same : (ps qs : List Balance) → FitFourBytes ps → FitFourBytes qs
    → flat_map account_bytes ps ≡ flat_map account_bytes qs → ps ≡ qs
account_bytes-same [] [] fits fit e = refl
account_bytes-same [] (q ∷ qs) fits fit e = absurd cc
account_bytes-same (p ∷ ps) [] fits fit e = absurd cc
account_bytes-same (p ∷ ps) (q ∷ qs) fits fit e =
    let whole : to_be_bytes w32 p.0 ++ (to_be_bytes w32 p.1 ++ flat_map account_bytes ps)
    ≡ to_be_bytes w32 q.0 ++ (to_be_bytes w32 q.1 ++ flat_map account_bytes qs) = e in
    let balances = word-same p.0 q.0 _ _ fits.0.0 fit.0.0 whole in
    let nonces = word-same p.1 q.1 _ _ fits.0.1 fit.0.1 (balances.1) in
    let rest = account_bytes-same ps qs fits.1 fit.1 (nonces.1) in
    λ i. (balances.0 i, nonces.0 i) ∷ rest i

pub purse_bytes-same : (ps qs : List Balance) → FitFourBytes ps → FitFourBytes qs → purse_bytes ps ≡ purse_bytes qs → ps ≡ qs
unfolding purse_bytes
purse_bytes-same ps qs fits fit e =
    let tail : flat_map account_bytes ps ≡ flat_map account_bytes qs = cc in
    account_bytes-same ps qs fits fit tail
