-- Each load and each raise preserves the rule of the table.
use Rattle.std.proofs.Common.{◌≡◌, ◌≢◌, ℕ, ◌<◌, ◌≤◌, ◌^◌, max, true, false, List, map, length, set, sym, refl, ap, ◌∙◌, subst, ⊎_elim}
use Rattle.std.proofs.Common.{arith}
use Rattle.std.specs.Prelude.{Some, IsTrue, slice_get, slice_set, slice_index}
use Rattle.std.proofs.lemmas.List.{length-map, map-set, set-get_or, get_or-set_same, get_or-set_other}
use Rattle.std.proofs.lemmas.Option.{slice_get_within, slice_get-get_or, get_or_from_slice_get}
use Rattle.std.proofs.Math.ListN.{length-set}
use native.Mathlib.Decide.{ℕ_discrete}
use mathlib.Core.Option.{some, none, some-injective, some-ne-none}
use lib.ListN.{get_elem?}
use Rattle.atomic_table.specs.Table.{Me, keeps, Allows, step}
use Rattle.atomic_table.proofs.Lists.{at_set, at_map, set_here, set_else, set_again}
use Rattle.ledger_model.specs.Boards.{Board, IsBoard, heights_of, rises_to}
use Rattle.ledger_model.proofs.SeatLists.{to_elem, from_elem, Each}
use Rattle.commit_board.proofs.OneSeat.{each_set}
use Rattle.commit_board.specs.declared.log.Log.{Log}
use Rattle.commit_board.specs.BoardRule.{board_of, FitsWriter, FitsReader, FitsClosed, FitsMaker, Holds, KeepsBoard, with_seen, with_height}
use Rattle.commit_board.specs.BoardRule.{Found, Owned, Raised}
use Rattle.commit_board.proofs.Heights.{heights_own, heights_other, rises_last, rises_more}
use Rattle.commit_board.proofs.Seating.{clash, is_board}

pub loads : {S : Type 0} (n slots id : ℕ) (me : Me S Log) (i : ℕ) → i < n → me.0.writes ≡ false → me.0.makes ≡ false
    → Allows {S = S} (KeepsBoard n) slots id me i (λ k. k) (Found (step slots i 0 0 none) me)
loads n slots id me i below not_writes not_makes s h homes at fits =
    let v : Log = me.0 in
    let words : List ℕ = s.words in
    let height : ℕ = slice_index words i in
    let within : i < length words = let c = h.count in omega arith in
    let found : slice_get words i ≡ Some height = slice_get-get_or words i 0 within in
    let w : Log = with_seen v i height in
    let views : List Log = set s.views id w in
    let own : IsTrue (rises_to height (heights_of i w.seen)) =
    ap (rises_to height) (heights_own i height v.seen) ∙ rises_last height (heights_of i v.seen) (h.readers id v at i within) in
    let rises : FitsReader words w = λ r less.
    elim (ℕ_discrete r i) [
      | yes same ↦ subst (λ (k : ℕ). IsTrue (rises_to (slice_index words k) (heights_of k w.seen))) (sym same) own
      | no other ↦ ap (rises_to (slice_index words r)) (heights_other r i height v.seen (λ e. other (sym e))) ∙ h.readers id v at r less
    ] in
    let readers : Each (λ k u. FitsReader words u) views =
    each_set (λ k u. FitsReader words u) s.views id w rises (λ j u other e. h.readers j u e) in
    let after : Holds n words views = record {
      count = h.count;
      small = h.small;
      seat = h.seat;
      maker = h.maker;
      writers = each_set (FitsWriter words h.seat) s.views id w (λ p. clash v.writes p not_writes) (λ j u other e. h.writers j u e);
      readers = readers;
      closed = each_set (λ k u. FitsClosed words h.seat u) s.views id w (h.closed id v at) (λ j u other e. h.closed j u e);
      makers = each_set (FitsMaker words h.seat h.maker) s.views id w (λ p. clash v.makes p not_makes) (λ j u other e. h.makers j u e);
    } in
    let seen : Log → List (ℕ × ℕ) = λ u. u.seen in
    let place : id < length (map seen s.views) = let p =
    slice_get_within s.views id v (from_elem s.views id v at) in omega (arith, length-map s.views seen) in
    let new : Board = record { words = words; writers = words; readers = slice_set (map seen s.views) id w.seen } in
    let had : slice_get (map seen s.views) id ≡ Some v.seen = from_elem (map seen s.views) id v.seen (at_map seen s.views id v at) in (
      w,
      keeps,
      tt,
      subst (λ (ws : List ℕ). Holds n ws views) (sym (set-get_or words i 0)) after,
      (
        refl,
        h.small i height found,
        own,
        (λ k last e. get_or_from_slice_get words i last 0 (h.closed id v at k (i, last) e).1),
        record {
          old = board_of words s.views;
          new = new;
          reader = id;
          was = is_board words s.views h.readers;
          had = had;
          reads = record { view = v.seen; had = had; found = found; seen = refl };
          is = subst (λ (l : List (List (ℕ × ℕ))). IsBoard (record { words = words; writers = words; readers = l }))
              (map-set seen s.views id w) (is_board words views readers);
          has = from_elem (slice_set (map seen s.views) id w.seen) id w.seen (set_here (map seen s.views) id w.seen place);
        },
      ),
    )

pub owns : {S : Type 0} (n slots id : ℕ) (me : Me S Log) (i : ℕ) → me.0.writes ≡ true → me.0.replica ≡ i
    → Allows {S = S} (KeepsBoard n) slots id me i (λ k. k) (Owned (step slots i 0 0 none) me)
owns n slots id me i writes of s h homes at fits =
    let v : Log = me.0 in
    let found : slice_get s.words i ≡ Some v.height = ap (slice_get s.words) (sym of) ∙ (h.writers id v at writes).1 in (
      v,
      keeps,
      tt,
      subst (λ (y : List ℕ × List Log). Holds n y.0 y.1) (λ k. (sym (set-get_or s.words i 0) k, sym (set_again s.views id v at) k)) h,
      (
        refl,
        get_or_from_slice_get s.words i v.height 0 found,
        subst (λ (k : ℕ). k < 2 ^ 32)
            (sym (get_or_from_slice_get s.words i v.height 0 found)) (h.small i v.height found),
      ),
    )

pub raises : {S : Type 0} (n slots id : ℕ) (me : Me S Log) (i k : ℕ) → me.0.writes ≡ true → me.0.makes ≡ false → me.0.replica ≡ i
    → k < 2 ^ 32
    → Allows {S = S} (KeepsBoard n) slots id me i (λ m. max m k) (Raised (step slots i k 0 none) me)
raises n slots id me i k writes not_makes of low s h homes at fits =
    let v : Log = me.0 in
    let words : List ℕ = s.words in
    let mine = h.writers id v at writes in
    let here : h.seat i ≡ some (some id) = ap h.seat (sym of) ∙ mine.0 in
    let found : slice_get words i ≡ Some v.height = ap (slice_get words) (sym of) ∙ mine.1 in
    let within : i < length words = slice_get_within words i v.height found in
    let was : slice_index words i ≡ v.height = get_or_from_slice_get words i v.height 0 found in
    let top : ℕ = max (slice_index words i) k in
    let after : List ℕ = slice_set words i top in
    let w : Log = with_height v k in
    let has : slice_get after i ≡ Some w.height =
    from_elem after i w.height (set_here words i top within ∙ ap (λ (m : ℕ). some (max m k)) was) in
    let still = λ (p m : ℕ) (other : p ≢ i) (e : slice_get words p ≡ Some m). from_elem after p m
    (set_else words i p top other ∙ to_elem words p m e) in
    let back = λ (p m : ℕ) (other : p ≢ i) (e : slice_get after p ≡ Some m). from_elem words p m
    (sym (set_else words i p top other) ∙ to_elem after p m e) in
    let higher : (r : ℕ) → slice_index words r ≤ slice_index after r = λ r.
    elim (ℕ_discrete r i) [
      | yes same ↦ subst (λ (m : ℕ). slice_index words m ≤ slice_index after m) (sym same) (let e : slice_index after i ≡ top =
          get_or-set_same words i top 0 within in omega arith)
      | no other ↦ let e : slice_index after r ≡ slice_index words r = get_or-set_other words i r top 0 other in omega arith
    ] in
    let more = λ (u : Log) (f : FitsReader words u) (r : ℕ) (less : r < length after). rises_more (slice_index words r)
    (slice_index after r) (heights_of r u.seen) (higher r)
    (f r (let e : length after ≡ length words = length-set words i top in omega arith)) in
    let closed : (u : Log) → FitsClosed words h.seat u → FitsClosed after h.seat u = λ u f j e a.
    let d = f j e a in (
      d.0,
      still e.0 e.1
          (λ same. some-ne-none id (some-injective (some id) none (sym here ∙ ap h.seat (sym same) ∙ d.0))) d.1,
    ) in
    let seen : Log → List (ℕ × ℕ) = λ u. u.seen in (
      w,
      keeps,
      tt,
      record {
        count = length-set words i top ∙ h.count;
        small = λ r m e.
            ⊎_elim (λ (t : (r ≡ i) × (top ≡ m)). let below =
            h.small i v.height found in omega arith)
            (λ (t : (r ≢ i) × (get_elem? words r ≡ some m)). h.small r m (from_elem words r m t.1))
            (at_set words i r top m (to_elem after r m e));
        seat = h.seat;
        maker = h.maker;
        writers = each_set (FitsWriter after h.seat) s.views id w (λ _. (mine.0, ap (slice_get after) of ∙ has))
            (λ j u other e p. let o = h.writers j u e p
            in (
              o.0,
              still u.replica u.height
                  (λ same. other (some-injective j id (some-injective (some j) (some id) (sym o.0 ∙ ap h.seat same ∙ here)))) o.1,
            ));
        readers = each_set (λ j u. FitsReader after u) s.views id w (more v (h.readers id v at)) (λ j u other e. more u (h.readers j u e));
        closed = each_set (λ j u. FitsClosed after h.seat u) s.views id w (closed v (h.closed id v at))
            (λ j u other e. closed u (h.closed j u e));
        makers = each_set (FitsMaker after h.seat h.maker) s.views id w (λ p. clash v.makes p not_makes)
            (λ j u other e p.
            let o = h.makers j u e p in
            (o.0, o.1, λ q m le a. o.2 q m le (back q m (λ same. some-ne-none (some id) (sym here ∙ ap h.seat (sym same) ∙ o.1 q le)) a)));
      },
      (
        refl,
        record {
          old = board_of words s.views;
          new = record { words = after; writers = after; readers = map seen s.views };
          was = is_board words s.views h.readers;
          had = found;
          raises = record { place = within; raised = refl };
          is = is_board after s.views (λ j u e. more u (h.readers j u e));
          has = has;
        },
      ),
    )
