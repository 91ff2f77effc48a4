-- Batches are read back from their text.
use Rattle.std.proofs.Common.{◌≡◌, ◌∙◌, ℕ, ◌<◌, ◌+◌, suc, get_or, take, drop, map, drop-cons, Bool, true, false, cond, List, [], ◌∷◌, ◌++◌}
use Rattle.std.proofs.Common.{length, Bor, refl, sym, ap, eq-eqb}
use Rattle.std.specs.Prelude.{◌==◌, ◌≢◌, Option, Some, None, MatchOption, option_and_then}
use Rattle.std.specs.Option.{option_map}
use Rattle.std.proofs.lemmas.Bool.{eqb-true}
use Rattle.std.proofs.lemmas.List.{take_more, map_push, map-append, take-append-drop}
use Rattle.scenario_texts.specs.Reading.{without_first, without_last, tx_of, txs_of}

-- a byte at the head
pub without_first-head : (c : ℕ) (rest : List ℕ) → without_first c (c ∷ rest) ≡ Some rest
without_first-head c rest = rw (eq-eqb c c refl) refl

-- what was stripped of a byte at its head
pub first_stripped : (c : ℕ) (text : List ℕ) (r : Option (Bor (List ℕ)))
    → MatchOption r ((rest : List ℕ) → text ≢ c ∷ rest) (λ x. text ≡ c ∷ x.now) → option_map (λ x. x.now) r ≡ without_first c text
first_stripped c text (Some x) e = sym (ap (without_first c) e ∙ without_first-head c x.now)
first_stripped c [] None none = refl
first_stripped c (b ∷ rest) None none = by_test (b == c) refl
  where
    by_test : (t : Bool) → (b == c) ≡ t → None ≡ cond t (Some rest) None
    by_test true e = let same : b ≡ c = eqb-true b c e in absurd (none rest (ap (λ x. x ∷ rest) same))
    by_test false e = refl

-- a byte at the end
pub without_last-end : (c : ℕ) (front : List ℕ) → without_last c (front ++ c ∷ []) ≡ Some front
without_last-end c [] = rw (eq-eqb c c refl) refl
without_last-end c (b ∷ []) = ap (option_map (λ f. b ∷ f)) (without_last-end c [])
without_last-end c (b ∷ d ∷ front) = ap (option_map (λ f. b ∷ f)) (without_last-end c (d ∷ front))

-- no byte at the end
no_last : (c : ℕ) (text : List ℕ) → ((front : List ℕ) → text ≢ front ++ c ∷ []) → without_last c text ≡ None
no_last c [] none = refl
no_last c (b ∷ []) none = by_test (b == c) refl
  where
    by_test : (t : Bool) → (b == c) ≡ t → cond {A = Option (List ℕ)} t (Some []) None ≡ None
    by_test true e = let same : b ≡ c = eqb-true b c e in absurd (none [] (ap (λ x. x ∷ []) same))
    by_test false e = refl
no_last c (b ∷ d ∷ rest) none = ap (option_map (λ f. b ∷ f)) (no_last c (d ∷ rest) (λ front e. none (b ∷ front) (ap (λ t. b ∷ t) e)))

-- what was stripped of a byte at its end
pub last_stripped : (c : ℕ) (text : List ℕ) (r : Option (Bor (List ℕ)))
    → MatchOption r ((front : List ℕ) → text ≢ front ++ c ∷ []) (λ x. text ≡ x.now ++ c ∷ [])
    → option_map (λ x. x.now) r ≡ without_last c text
last_stripped c text (Some x) e = sym (ap (without_last c) e ∙ without_last-end c x.now)
last_stripped c text None none = sym (no_last c text none)

-- a transaction in front of those that follow
abbrev pub followed : Option (List ℕ) → Option (List (List ℕ)) → Option (List (List ℕ))
followed o p = option_and_then (λ x. option_and_then (λ xs. Some (x ∷ xs)) p) o

-- one transaction more at the end
followed-snoc : (o : Option (List ℕ)) (p q : Option (List (List ℕ))) (txs : List (List ℕ)) (tx : List ℕ) → followed o p ≡ Some txs
    → ((xs : List (List ℕ)) → p ≡ Some xs → q ≡ Some (xs ++ tx ∷ [])) → followed o q ≡ Some (txs ++ tx ∷ [])
followed-snoc None p q txs tx e more = absurd cc
followed-snoc (Some x) None q txs tx e more = absurd cc
followed-snoc (Some x) (Some xs) q txs tx e more = let same : x ∷ xs ≡ txs = cc in rw (more xs refl) (ap (λ t. Some (t ++ tx ∷ [])) same)

-- the transactions of words, and of one word more
pub txs_of-snoc : (words : List (List ℕ)) (word : List ℕ) (txs : List (List ℕ)) (tx : List ℕ) → txs_of words ≡ Some txs
    → tx_of word ≡ Some tx → txs_of (words ++ word ∷ []) ≡ Some (txs ++ tx ∷ [])
unfolding txs_of
txs_of-snoc [] word txs tx all one = rw one (let same : [] ≡ txs = cc in ap (λ t. Some (t ++ tx ∷ [])) same)
txs_of-snoc (w ∷ words) word txs tx all one =
    followed-snoc (tx_of w) (txs_of words) (txs_of (words ++ word ∷ [])) txs tx all (λ xs e. txs_of-snoc words word xs tx e one)

-- nothing follows
followed-none : (o : Option (List ℕ)) → followed o None ≡ None
followed-none None = refl
followed-none (Some x) = refl

-- one word that is no transaction among them
pub txs_of-none : (words : List (List ℕ)) (word : List ℕ) (more : List (List ℕ)) → tx_of word ≡ None → txs_of (words ++ word ∷ more) ≡ None
unfolding txs_of
txs_of-none [] word more none = rw none refl
txs_of-none (w ∷ words) word more none = ap (followed (tx_of w)) (txs_of-none words word more none) ∙ followed-none (tx_of w)

-- the words so far, and the next
pub read_more : (words : List (Bor (List ℕ))) (i : ℕ) (d : Bor (List ℕ)) (txs : List (List ℕ)) (tx : List ℕ) → i < length words
    → txs_of (map (λ w. w.now) (take i words)) ≡ Some txs → tx_of (get_or words i d).now ≡ Some tx
    → txs_of (map (λ w. w.now) (take (i + 1) words)) ≡ Some (txs ++ tx ∷ [])
read_more words i d txs tx within so_far one =
    let cut : map (λ w. w.now) (take (i + 1) words) ≡ map (λ w. w.now) (take i words) ++ (get_or words i d).now ∷ [] =
    ap (map (λ w. w.now)) (take_more words i d within) ∙ map_push (λ w. w.now) (take i words) (get_or words i d) in
    ap txs_of cut ∙ txs_of-snoc (map (λ w. w.now) (take i words)) (get_or words i d).now txs tx so_far one

-- one of the words is no transaction
pub read_none : (words : List (Bor (List ℕ))) (i : ℕ) (d : Bor (List ℕ)) → i < length words → tx_of (get_or words i d).now ≡ None
    → txs_of (map (λ w. w.now) words) ≡ None
read_none words i d within none =
    let cut : words ≡ take i words ++ (get_or words i d ∷ drop (suc i) words) =
    sym (take-append-drop i words) ∙ ap (λ r. take i words ++ r) (drop-cons words i d within) in
    ap (λ ws. txs_of (map (λ w. w.now) ws)) cut
    ∙ ap txs_of (map-append (λ w. w.now) (take i words) (get_or words i d ∷ drop (suc i) words))
    ∙ txs_of-none (map (λ w. w.now) (take i words)) (get_or words i d).now (map (λ w. w.now) (drop (suc i) words)) none
