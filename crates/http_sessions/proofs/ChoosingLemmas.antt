-- One replica more is asked for its height.
use Rattle.std.proofs.Common.{◌≡◌, ℕ, ◌+◌, true, false, List, [], ◌∷◌, ◌++◌, refl, ap, sym, subst, ◌∙◌, append_assoc, arith}
use Rattle.std.specs.List.{All, FoldsTo}
use Rattle.std.proofs.lemmas.Bool.{ltb-true, ltb-false, lt-ltb}
use Rattle.std.proofs.lemmas.Fn.{FoldsTo-push}
use Rattle.std.proofs.lemmas.List.{map-append}
use Rattle.std.proofs.lemmas.List.Elements.{All-append, All-cons, All-nil, All-push, All-weaker}
use Rattle.ledger_model.specs.Sessions.{Heights}
use Rattle.http_sessions.specs.Exchanges.{HttpExchange, Asked}
use Rattle.http_sessions.specs.Choosing.{IsChosen, exchanges_of_heights, prefers}
use Rattle.http_sessions.specs.declared.choosing.Choice.{Choice}
use Rattle.http_sessions.specs.declared.choosing.Choice.TheVariants as choice
use Rattle.http_sessions.proofs.Showing.{each_more}

-- the first replica is the one of one
pub first_asked : (of : Choice) (h : ℕ) → IsChosen of 1 ((0, h) ∷ []) 0 h
first_asked of h = record { each = refl; before = []; after = []; split = refl; preferred = All-nil _; none_better = All-nil _ }

-- what is preferred to a height is preferred to each that this one is preferred to
over : (of : Choice) (a b c : ℕ) → prefers of a b ≡ true → prefers of b c ≡ true → prefers of a c ≡ true
over choice.MostCommitted a b c first second = lt-ltb c a (omega (arith, ltb-true b a first, ltb-true c b second))
over choice.LeastCommitted a b c first second = lt-ltb a c (omega (arith, ltb-true a b first, ltb-true b c second))

-- and to each that isn't preferred to it
over_no_better : (of : Choice) (a b c : ℕ) → prefers of a b ≡ true → prefers of c b ≡ false → prefers of a c ≡ true
over_no_better choice.MostCommitted a b c first second = lt-ltb c a (omega (arith, ltb-true b a first, ltb-false b c second))
over_no_better choice.LeastCommitted a b c first second = lt-ltb a c (omega (arith, ltb-true a b first, ltb-false c b second))

module _ (of : Choice) (n r best h : ℕ) (pairs : List (ℕ × ℕ)) (is : IsChosen of n pairs r best) where
  -- it is preferred to all before it
  pub better : prefers of h best ≡ true → IsChosen of (n + 1) (pairs ++ (n, h) ∷ []) n h
  better more =
      let before = All-weaker (λ (p : ℕ × ℕ). prefers of best p.1 ≡ true) (λ (p : ℕ × ℕ). prefers of h p.1 ≡ true)
      (λ p so. over of h best p.1 more so) is.before is.preferred in
      let after = All-weaker (λ (p : ℕ × ℕ). prefers of p.1 best ≡ false) (λ (p : ℕ × ℕ). prefers of h p.1 ≡ true)
      (λ p so. over_no_better of h best p.1 more so) is.after is.none_better in
      let all = All-append (λ (p : ℕ × ℕ). prefers of h p.1 ≡ true) is.before ((r, best) ∷ is.after) before
      (All-cons (λ (p : ℕ × ℕ). prefers of h p.1 ≡ true) (r, best) is.after more after) in
      record {
        each = each_more (λ (p : ℕ × ℕ). p.0) pairs (n, h) n is.each refl;
        before = pairs;
        after = [];
        split = refl;
        preferred = subst (All (λ (p : ℕ × ℕ). prefers of h p.1 ≡ true)) (sym is.split) all;
        none_better = All-nil _;
      }

  -- it isn't preferred
  pub no_better : prefers of h best ≡ false → IsChosen of (n + 1) (pairs ++ (n, h) ∷ []) r best
  no_better less = record {
    each = each_more (λ (p : ℕ × ℕ). p.0) pairs (n, h) n is.each refl;
    before = is.before;
    after = is.after ++ (n, h) ∷ [];
    split = ap (λ l. l ++ (n, h) ∷ []) is.split ∙ append_assoc is.before ((r, best) ∷ is.after) ((n, h) ∷ []);
    preferred = is.preferred;
    none_better = All-push (λ (p : ℕ × ℕ). prefers of p.1 best ≡ false) is.after (n, h) is.none_better less;
  }

-- one exchange more
pub asked_more : {T : Type 0} (makes : T → HttpExchange → T → Type 0) (before now after : T) (pairs : List (ℕ × ℕ)) (n h : ℕ)
    → FoldsTo makes before (exchanges_of_heights pairs) now → makes now (Asked (Heights n h)) after
    → FoldsTo makes before (exchanges_of_heights (pairs ++ (n, h) ∷ [])) after
asked_more makes before now after pairs n h made asked =
    subst (λ l. FoldsTo makes before l after) (sym (map-append (λ (p : ℕ × ℕ). Asked (Heights p.0 p.1)) pairs ((n, h) ∷ [])))
    (FoldsTo-push makes before (exchanges_of_heights pairs) now (Asked (Heights n h)) after made asked)
