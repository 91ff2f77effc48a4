-- What a pass put agrees with a full inbox, which another pass filled, and with an empty one.
use Rattle.std.proofs.Common.{◌≡◌, ◌≢◌, ℕ, zero, suc, ◌+◌, ◌<◌, ◌≤◌, Bool, true, false, true≢false, eqb, eqb-true, eq-eqb, List, [], ◌∷◌, ◌++◌}
use Rattle.std.proofs.Common.{get_or, length, map, refl, sym, ap, ◌∙◌, ⊎_elim, append_assoc, length-append, arith, lit≤}
use Rattle.std.specs.Prelude.{Some, slice_get, slice_set, replicate}
use Rattle.std.specs.List.{range_with_len}
use Rattle.std.proofs.lemmas.List.{append-nil, length-replicate, length-set}
use Rattle.std.proofs.lemmas.List.FromFn.{length-map-range_with_len}
use Rattle.std.proofs.lemmas.Option.{same_Some, slice_get-get_or}
use mathlib.Core.Option.{some}
use lib.ListN.{get_elem?}
use Rattle.crossbeam_queue.proofs.Lists.{at_set}
use Rattle.ledger_model.proofs.SeatLists.{to_elem, from_elem}
use Rattle.ledger_model.specs.Inboxes.{Put, Inbox, of_pass, IsInbox}
use Rattle.inbox.specs.Fits.{IsLawfulInbox, FitsInbox, FitsFull, FitsEmpty, WaitingFit, FitsAnItem}
use Rattle.inbox.proofs.Lists.{of_both, of_own, of_other, last_other}
use Rattle.inbox.proofs.Laws.{after_put, put_keeps}

-- the items of a pass are all of that pass
own_first : (p : ℕ) (x : Put) (xs : List Put) → of_pass p (of_pass p xs) ≡ of_pass p xs → (b : Bool) → eqb x.pass p ≡ b
    → of_pass p (of_pass p (x ∷ xs)) ≡ of_pass p (x ∷ xs)
own_first p x xs again true is =
    let own : x.pass ≡ p = eqb-true x.pass p is in
    ap (of_pass p) (of_own p x xs own) ∙ of_own p x (of_pass p xs) own ∙ ap (λ (l : List Put). x ∷ l) again ∙ sym (of_own p x xs own)
own_first p x xs again false is =
    let other : x.pass ≢ p = λ e. true≢false (sym (eq-eqb x.pass p e) ∙ is) in
    ap (of_pass p) (of_other p x xs other) ∙ again ∙ sym (of_other p x xs other)

own_again : (p : ℕ) (xs : List Put) → of_pass p (of_pass p xs) ≡ of_pass p xs
own_again p [] = refl
own_again p (x ∷ xs) = own_first p x xs (own_again p xs) (eqb x.pass p) refl

of_strangers : (p : ℕ) (x : Put) → x.pass ≢ p → (n : ℕ) → of_pass p (replicate n x) ≡ []
of_strangers p x other zero = refl
of_strangers p x other (suc n) = of_other p x (replicate n x) other ∙ of_strangers p x other n

module _ (f : ℕ → List Put) where
  got : (a n q : ℕ) (x : List Put) → slice_get (map f (range_with_len a n)) q ≡ Some x → x ≡ f (a + q)
  got a zero q x at = cc
  got a (suc n) zero x at = sym (same_Some (f a) x at) ∙ ap f (omega arith)
  got a (suc n) (suc q) x at = got (a + 1) n q x at ∙ ap f (omega arith)

  there : (a n q : ℕ) → q < n → slice_get (map f (range_with_len a n)) q ≡ Some (f (a + q))
  there a zero q lt = absurd (omega (arith, lt))
  there a (suc n) zero lt = ap (λ k. Some (f k)) (omega arith)
  there a (suc n) (suc q) lt = there (a + 1) n q (omega (arith, lt)) ∙ ap (λ k. Some (f k)) (omega arith)

-- no item is of two passes
apart_first : (q p : ℕ) (x : Put) (xs : List Put) → q ≢ p → of_pass q (of_pass p xs) ≡ [] → (b : Bool) → eqb x.pass p ≡ b
    → of_pass q (of_pass p (x ∷ xs)) ≡ []
apart_first q p x xs not rest true is =
    let own : x.pass ≡ p = eqb-true x.pass p is in
    ap (of_pass q) (of_own p x xs own) ∙ of_other q x (of_pass p xs) (λ e. not (sym e ∙ own)) ∙ rest
apart_first q p x xs not rest false is =
    let other : x.pass ≢ p = λ e. true≢false (sym (eq-eqb x.pass p e) ∙ is) in
    ap (of_pass q) (of_other p x xs other) ∙ rest

apart : (q p : ℕ) (xs : List Put) → q ≢ p → of_pass q (of_pass p xs) ≡ []
apart q p [] not = refl
apart q p (x ∷ xs) not = apart_first q p x xs not (apart q p xs not) (eqb x.pass p) refl

-- an inbox from which everything was taken that this pass put, and which contains items of another
fitting : (p : ℕ) (items held : List Put) (count : ℕ) → of_pass p items ≡ items → of_pass p held ≡ []
    → ((q : ℕ) → p + 2 ≤ q → of_pass q held ≡ []) → length held ≡ count → count ≤ 1024 → FitsInbox p items count
fitting p items held count own none no_more size few =
    let put : ℕ → List Put = λ q. of_pass q items ++ of_pass q held in
    let b : Inbox = record { put = map put (range_with_len 0 (p + 2)); taken = items; held = held } in
    record {
      inbox = b;
      lawful = record {
        is = record {
          kept = λ q its at. got put 0 (p + 2) q its at ∙ ap put (omega arith);
          small = omega (arith, size, few);
        };
        strangers = λ q le.
            let far : p + 2 ≤ q = omega (arith, le, length-map-range_with_len put 0 (p + 2)) in
            of_both q items held
            ∙ ap (λ (l : List Put). l ++ of_pass q held) (ap (of_pass q) (sym own) ∙ apart q p items (λ e. absurd (omega (arith, e, far))))
            ∙ no_more q far;
      };
      own = there put 0 (p + 2) p (omega arith)
          ∙ ap Some (ap put (omega arith) ∙ ap (λ (l : List Put). l ++ of_pass p held) own ∙ ap (λ (l : List Put). items ++ l) none
          ∙ append-nil items);
      held = size;
    }

-- what a pass put is all of that pass
own_items : (b : Inbox) (p : ℕ) (items : List Put) → IsInbox b → slice_get b.put p ≡ Some items → of_pass p items ≡ items
own_items b p items is at =
    let all : items ≡ of_pass p (b.taken ++ b.held) = is.kept p items at ∙ sym (of_both p b.taken b.held) in
    ap (of_pass p) all ∙ own_again p (b.taken ++ b.held) ∙ sym all

pub fits_full : FitsFull
fits_full b p items is at =
    let other : Put = record { pass = p + 1; bytes = [] } in
    fitting p items (replicate 1024 other) 1024 (own_items b p items is at) (of_strangers p other (λ e. absurd (omega (arith, e))) 1024)
    (λ q le. of_strangers q other (λ e. absurd (omega (arith, e, le))) 1024) (length-replicate 1024 other) (lit≤ tt)

pub fits_empty : FitsEmpty
fits_empty b p items is at = fitting p items [] 0 (own_items b p items is at) refl (λ q le. refl) refl (lit≤ tt)

-- the pass puts one item into an empty inbox
pub fits_an_item : FitsAnItem
fits_an_item b p lawful empty lt =
    let x : Put = record { pass = p; bytes = [] } in
    let before : List Put = get_or b.put p [] in
    let had : slice_get b.put p ≡ Some before = slice_get-get_or b.put p [] lt in
    let none : length b.held ≡ 0 = ap length empty in
    record {
      inbox = after_put b x before;
      lawful = record {
        is = put_keeps b x before lawful.is had (omega (arith, none));
        strangers = λ q le.
            let far : length b.put ≤ q = omega (arith, le, length-set b.put p (before ++ x ∷ [])) in
            ap (of_pass q) (sym (append_assoc b.taken b.held (x ∷ [])))
            ∙ last_other q (b.taken ++ b.held) x (λ e. absurd (omega (arith, e, far, lt)))
            ∙ lawful.strangers q far;
      };
      taken = refl;
      passes = length-set b.put p (before ++ x ∷ []);
      others = λ q its not at.
          ⊎_elim (λ (here : (q ≡ p) × (before ++ x ∷ [] ≡ its)). absurd (not here.0))
          (λ (there : (q ≢ p) × (get_elem? b.put q ≡ some its)). from_elem b.put q its there.1)
          (at_set b.put p q (before ++ x ∷ []) its (to_elem (slice_set b.put p (before ++ x ∷ [])) q its at));
      held = length-append b.held (x ∷ []) ∙ ap (λ n. n + 1) none;
    }
