-- One more replica is read, and the least of the heights that were read.
use Rattle.std.proofs.Common.{◌≡◌, ℕ, ◌+◌, ◌<◌, ◌≤◌, min, List, [], ◌∷◌, ◌++◌, map, refl, sym, ap, ◌∙◌, subst, ⊎_elim, arith}
use Rattle.std.proofs.Common.{append_assoc}
use Rattle.std.specs.List.{All, Contains, range_with_len}
use Rattle.std.proofs.lemmas.Bool.{cases_lt}
use Rattle.std.proofs.lemmas.List.{append-nil, map-append, map-id}
use Rattle.std.proofs.lemmas.List.Elements.{All-push, Contains-append_left, Contains-append_right}
use Rattle.std.proofs.lemmas.List.FromFn.{map-range_with_len_more}
use Rattle.commit_board.specs.Seats.{ReaderSeatView, ReadAtOnce, ReadOneByOne, ReadsInOrder}

-- one more pair was read after the others
one_more : (before reads : List (ℕ × ℕ)) (p : ℕ × ℕ) → ReadOneByOne before reads
    → ReadAtOnce (before ++ reads) p.0 p.1 ((before ++ reads) ++ p ∷ [])
    → ReadOneByOne before (reads ++ p ∷ [])
one_more before [] p steps last =
    (subst (λ (l : List (ℕ × ℕ)). ReadAtOnce l p.0 p.1 (l ++ p ∷ [])) (append-nil before) last, tt)
one_more before (q ∷ qs) p steps last = (
  steps.0,
  one_more (before ++ q ∷ []) qs p steps.1
      (subst (λ (l : List (ℕ × ℕ)). ReadAtOnce l p.0 p.1 (l ++ p ∷ [])) (sym (append_assoc before (q ∷ []) qs)) last),
)

-- one more number of a range
range_more : (a n j : ℕ) → a + n ≡ j → range_with_len a (n + 1) ≡ range_with_len a n ++ j ∷ []
range_more a n j e =
    let more = map-range_with_len_more (λ (k : ℕ). k) a n j e in
    simp map-id at more

-- the next replica is read
pub next_read : (old mid new : ReaderSeatView) (n h : ℕ) (reads : List (ℕ × ℕ)) → ReadsInOrder old mid n reads
    → new ≡ record mid { seen = mid.seen ++ (n, h) ∷ [] }
    → ReadAtOnce mid.seen n h new.seen
    → ReadsInOrder old new (n + 1) (reads ++ (n, h) ∷ [])
next_read old mid new n h reads before grown step =
    let first : ℕ × ℕ → ℕ = λ p. p.0 in
    let seen : mid.seen ≡ old.seen ++ reads = ap (λ (s : ReaderSeatView). s.seen) before.seen in
    let after : new.seen ≡ mid.seen ++ (n, h) ∷ [] = ap (λ (s : ReaderSeatView). s.seen) grown in
    let last : ReadAtOnce (old.seen ++ reads) n h ((old.seen ++ reads) ++ (n, h) ∷ []) =
    subst (λ (l : List (ℕ × ℕ)). ReadAtOnce l n h (l ++ (n, h) ∷ [])) seen (rw after at step) in
    record {
      each = map-append first reads ((n, h) ∷ []) ∙ ap (λ (l : List ℕ). l ++ n ∷ []) before.each ∙ sym (range_more 0 n n (omega arith));
      seen = grown ∙ ap (λ (s : ReaderSeatView). record s { seen = s.seen ++ (n, h) ∷ [] }) before.seen
          ∙ ap (λ (l : List (ℕ × ℕ)). record old { seen = l }) (append_assoc old.seen reads ((n, h) ∷ []));
      steps = one_more old.seen reads (n, h) before.steps last;
    }

-- the least is at most each height, also of the one that is read next
pub still_below : (least h n : ℕ) (reads : List (ℕ × ℕ)) → All (λ (p : ℕ × ℕ). least ≤ p.1) reads
    → All (λ (p : ℕ × ℕ). min least h ≤ p.1) (reads ++ (n, h) ∷ [])
still_below least h n reads below =
    All-push (λ (p : ℕ × ℕ). min least h ≤ p.1) reads (n, h)
    (λ k d within. let one = below k d within in omega arith) (omega arith)

-- the least is one of the heights
pub still_one : (least h n top : ℕ) (reads : List (ℕ × ℕ)) → (0 < n → Contains (map (λ (p : ℕ × ℕ). p.1) reads) least)
    → (n ≡ 0 → least ≡ top) → h ≤ top
    → Contains (map (λ (p : ℕ × ℕ). p.1) (reads ++ (n, h) ∷ [])) (min least h)
still_one least h n top reads one none fits =
    let heights : List (ℕ × ℕ) → List ℕ = map (λ (p : ℕ × ℕ). p.1) in
    let both : heights (reads ++ (n, h) ∷ []) ≡ heights reads ++ h ∷ [] = map-append (λ (p : ℕ × ℕ). p.1) reads ((n, h) ∷ []) in
    subst (λ (l : List ℕ). Contains l (min least h)) (sym both)
    (⊎_elim
    (λ (lower : least < h).
    let some : 0 < n =
    ⊎_elim (λ (is : 0 < n). is) (λ (le : n ≤ 0). let start = none (omega arith) in omega arith) (cases_lt 0 n) in
    let same : min least h ≡ least = omega arith in
    subst (Contains (heights reads ++ h ∷ [])) (sym same) (Contains-append_left (heights reads) (h ∷ []) least (one some)))
    (λ (lower : h ≤ least).
    let same : min least h ≡ h = omega arith in
    subst (Contains (heights reads ++ h ∷ [])) (sym same)
    (Contains-append_right (heights reads) (h ∷ []) h (0, omega arith, refl)))
    (cases_lt least h))
