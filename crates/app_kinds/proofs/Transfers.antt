-- A transfer between two accounts of a list.
use Rattle.std.proofs.Common.{◌≡◌, ◌≢◌, ℕ, zero, suc, ◌+◌, ◌-◌, ◌^◌, ◌<◌, ◌≤◌, List, [], ◌∷◌, ◌++◌, length, take, get_or, set, sym, ap, ◌∙◌, arith}
use Rattle.std.proofs.Common.{append_assoc}
use Rattle.std.specs.List.{flat_map}
use Rattle.std.proofs.lemmas.List.Sums.{sum_by-set, get_or-le-sum_by}
use Rattle.std.proofs.lemmas.List.{map-set, length-set, length-map, get_or-set_other, get_or-set_same, take_more, map-append, flat_map_more}
use Rattle.std.proofs.Math.ListN.{get_or-map}
use Rattle.std.specs.Int.{w32, to_be_bytes}
use Rattle.app_kinds.specs.declared.account.Account.{Account}
use Rattle.app_kinds.specs.Purses.{shown, balance_at, nonce_at, total_of, FitFourBytes}

abbrev pub Balance : Type 0
Balance = ℕ × ℕ

abbrev pub nothing : Account
nothing = record { balance = 0; nonce = 0 }

pub shown-at : (accounts : List Account) (i : ℕ)
    → get_or (shown accounts) i (0, 0) ≡ ((get_or accounts i nothing).balance, (get_or accounts i nothing).nonce)
shown-at accounts i = get_or-map (λ a. (a.balance, a.nonce)) accounts i nothing

shown-set : (accounts : List Account) (i : ℕ) (a : Account) → shown (set accounts i a) ≡ set (shown accounts) i (a.balance, a.nonce)
shown-set accounts i a = map-set (λ (x : Account). let h : Balance = (x.balance, x.nonce) in h) accounts i a

abbrev pub charged : List Account → ℕ → ℕ → Account
charged accounts s x = record { balance = (get_or accounts s nothing).balance - x; nonce = (get_or accounts s nothing).nonce + 1 }

abbrev pub credited : List Account → ℕ → ℕ → Account
credited accounts r x = record { balance = (get_or accounts r nothing).balance + x; nonce = (get_or accounts r nothing).nonce }

abbrev pub moved : List Balance → ℕ → ℕ → ℕ → List Balance
moved ps s r x = set (set ps s (balance_at ps s - x, nonce_at ps s + 1)) r (balance_at ps r + x, nonce_at ps r)

pub shown-transfer : (accounts : List Account) (s r x : ℕ)
    → shown (set (set accounts s (charged accounts s x)) r (credited accounts r x)) ≡ moved (shown accounts) s r x
shown-transfer accounts s r x =
    shown-set (set accounts s (charged accounts s x)) r (credited accounts r x)
    ∙ ap (λ (ps : List Balance). set ps r ((credited accounts r x).balance, (credited accounts r x).nonce))
    (shown-set accounts s (charged accounts s x))
    ∙ ap (λ (h : Balance). set (set (shown accounts) s (h.0 - x, h.1 + 1)) r
    ((credited accounts r x).balance, (credited accounts r x).nonce)) (sym (shown-at accounts s))
    ∙ ap (λ (h : Balance). set (set (shown accounts) s (balance_at (shown accounts) s - x, nonce_at (shown accounts) s + 1)) r
    (h.0 + x, h.1)) (sym (shown-at accounts r))

-- the total after a transfer
pub total-transfer : (ps : List Balance) (s r x : ℕ) → s < length ps → r < length ps → s ≢ r → x ≤ balance_at ps s
    → total_of (moved ps s r x) ≡ total_of ps
total-transfer ps s r x hs hr apart covered =
    let qs = set ps s (balance_at ps s - x, nonce_at ps s + 1) in
    let first : total_of qs + balance_at ps s ≡ total_of ps + (balance_at ps s - x) =
    sum_by-set (λ (a : Balance). a.0) ps s (balance_at ps s - x, nonce_at ps s + 1) (0, 0) hs in
    let long : r < length qs = rw (length-set ps s (balance_at ps s - x, nonce_at ps s + 1)) hr in
    let second : total_of (moved ps s r x) + balance_at qs r ≡ total_of qs + (balance_at ps r + x) =
    sum_by-set (λ (a : Balance). a.0) qs r (balance_at ps r + x, nonce_at ps r) (0, 0) long in
    let same : balance_at qs r ≡ balance_at ps r =
    ap (λ (h : Balance). h.0) (get_or-set_other ps s r (balance_at ps s - x, nonce_at ps s + 1) (0, 0) (λ e. apart (sym e))) in
    omega arith

-- two accounts hold at most the total
pub two-le-total : (ps : List Balance) (s r : ℕ) → s < length ps → r < length ps → s ≢ r → balance_at ps s + balance_at ps r ≤ total_of ps
two-le-total ps s r hs hr apart =
    let qs : List Balance = set ps s (0, 0) in
    let first : total_of qs + balance_at ps s ≡ total_of ps + 0 = sum_by-set (λ (a : Balance). a.0) ps s (0, 0) (0, 0) hs in
    let long : r < length qs = rw (length-set ps s (0, 0)) hr in
    let most : balance_at qs r ≤ total_of qs = get_or-le-sum_by (λ (a : Balance). a.0) qs r (0, 0) long in
    let same : balance_at qs r ≡ balance_at ps r = ap (λ (h : Balance). h.0) (get_or-set_other ps s r (0, 0) (0, 0) (λ e. apart (sym e))) in
    omega arith

-- ---- four bytes hold each number

-- what one account shows
fit-at : (ps : List Balance) (i : ℕ) → FitFourBytes ps → (balance_at ps i < 2 ^ 32) × (nonce_at ps i < 2 ^ 32)
fit-at [] i fit = (omega arith, omega arith)
fit-at (p ∷ ps) zero fit = fit.0
fit-at (p ∷ ps) (suc i) fit = fit-at ps i fit.1

fit-set : (ps : List Balance) (i : ℕ) (a : Balance) → FitFourBytes ps → a.0 < 2 ^ 32 → a.1 < 2 ^ 32 → FitFourBytes (set ps i a)
fit-set [] i a fit balance nonce = tt
fit-set (p ∷ ps) zero a fit balance nonce = ((balance, nonce), fit.1)
fit-set (p ∷ ps) (suc i) a fit balance nonce = (fit.0, fit-set ps i a fit.1 balance nonce)

less-below : (b x : ℕ) → b < 2 ^ 32 → b - x < 2 ^ 32
less-below b x below = omega arith

more-below : (b r x total : ℕ) → x ≤ b → b + r ≤ total → total ≡ 256000 → r + x < 2 ^ 32
more-below b r x total covered most is = omega arith

-- and after a transfer
pub fit-moved : (ps : List Balance) (s r x : ℕ) → FitFourBytes ps → total_of ps ≡ 256000 → s < length ps → r < length ps → s ≢ r
    → x ≤ balance_at ps s → nonce_at ps s + 1 < 2 ^ 32 → FitFourBytes (moved ps s r x)
fit-moved ps s r x fit total hs hr apart covered counted =
    fit-set (set ps s (balance_at ps s - x, nonce_at ps s + 1)) r (balance_at ps r + x, nonce_at ps r)
    (fit-set ps s (balance_at ps s - x, nonce_at ps s + 1) fit (less-below _ x (fit-at ps s fit).0) counted)
    (more-below _ _ x _ covered (two-le-total ps s r hs hr apart) total) (fit-at ps r fit).1

pub length-shown : (accounts : List Account) → length (shown accounts) ≡ length accounts
length-shown accounts = length-map accounts (λ (x : Account). let h : Balance = (x.balance, x.nonce) in h)

pub length-charged : (accounts : List Account) (s r x : ℕ)
    → length (set (set accounts s (charged accounts s x)) r (credited accounts r x)) ≡ length accounts
length-charged accounts s r x =
    length-set (set accounts s (charged accounts s x)) r (credited accounts r x) ∙ length-set accounts s (charged accounts s x)

-- ---- the bytes that are hashed

abbrev pub account_bytes : Balance → List ℕ
account_bytes a = to_be_bytes w32 a.0 ++ to_be_bytes w32 a.1

pub flat_map-shown_more : (accounts : List Account) (i : ℕ) → i < length accounts
    → flat_map account_bytes (shown (take (i + 1) accounts)) ≡ flat_map account_bytes (shown (take i accounts))
    ++ account_bytes ((get_or accounts i nothing).balance, (get_or accounts i nothing).nonce)
flat_map-shown_more accounts i below =
    let more : shown (take (i + 1) accounts) ≡ shown (take i accounts)
    ++ ((get_or accounts i nothing).balance, (get_or accounts i nothing).nonce) ∷ [] =
    ap shown (take_more accounts i nothing below)
    ∙ map-append (λ (x : Account). let h : Balance = (x.balance, x.nonce) in h) (take i accounts) (get_or accounts i nothing ∷ []) in
    ap (flat_map account_bytes) more
    ∙ sym (flat_map_more account_bytes [] (shown (take i accounts))
    ((get_or accounts i nothing).balance, (get_or accounts i nothing).nonce))

pub bytes-more : (accounts : List Account) (i : ℕ) → i < length accounts → (x y : List ℕ)
    → x ≡ to_be_bytes w32 (get_or accounts i nothing).balance → y ≡ to_be_bytes w32 (get_or accounts i nothing).nonce
    → flat_map account_bytes (shown (take (i + 1) accounts)) ≡ (flat_map account_bytes (shown (take i accounts)) ++ x) ++ y
bytes-more accounts i below x y hx hy =
    let front = flat_map account_bytes (shown (take i accounts)) in
    flat_map-shown_more accounts i below
    ∙ ap (λ z. front ++ (z ++ to_be_bytes w32 (get_or accounts i nothing).nonce)) (sym hx)
    ∙ ap (λ z. front ++ (x ++ z)) (sym hy)
    ∙ sym (append_assoc front x y)

-- ---- what a transfer leaves at each account

pub moved-at_receiver : (ps : List Balance) (s r x : ℕ) → r < length ps
    → get_or (moved ps s r x) r (0, 0) ≡ (balance_at ps r + x, nonce_at ps r)
moved-at_receiver ps s r x hr =
    get_or-set_same (set ps s (balance_at ps s - x, nonce_at ps s + 1)) r (balance_at ps r + x, nonce_at ps r) (0, 0)
    (rw (length-set ps s (balance_at ps s - x, nonce_at ps s + 1)) hr)

pub moved-at_sender : (ps : List Balance) (s r x : ℕ) → s < length ps → s ≢ r
    → get_or (moved ps s r x) s (0, 0) ≡ (balance_at ps s - x, nonce_at ps s + 1)
moved-at_sender ps s r x hs apart =
    get_or-set_other (set ps s (balance_at ps s - x, nonce_at ps s + 1)) r s (balance_at ps r + x, nonce_at ps r) (0, 0) apart
    ∙ get_or-set_same ps s (balance_at ps s - x, nonce_at ps s + 1) (0, 0) hs

pub moved-at_other : (ps : List Balance) (s r x i : ℕ) → i ≢ s → i ≢ r → get_or (moved ps s r x) i (0, 0) ≡ get_or ps i (0, 0)
moved-at_other ps s r x i no_sender no_receiver =
    get_or-set_other (set ps s (balance_at ps s - x, nonce_at ps s + 1)) r i (balance_at ps r + x, nonce_at ps r) (0, 0) no_receiver
    ∙ get_or-set_other ps s i (balance_at ps s - x, nonce_at ps s + 1) (0, 0) no_sender
