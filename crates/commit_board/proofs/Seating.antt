-- The invariant of all logs when seats are made and joined, and the board that they make.
use Rattle.std.proofs.Common.{◌≡◌, ◌≢◌, ℕ, zero, suc, Bool, true, false, true≢false, List, [], ◌∷◌, ◌++◌, map, length, set, sym, refl, ◌∙◌}
use Rattle.std.proofs.Common.{subst, ⊎_elim}
use Rattle.std.specs.Prelude.{IsTrue, slice_index}
use mathlib.Core.Option.{some, some-injective, some-ne-none}
use lib.ListN.{get_elem?}
use Rattle.atomic_table.proofs.Lists.{at_set}
use Rattle.ledger_model.specs.Boards.{IsBoard, heights_of, rises_to}
use Rattle.ledger_model.proofs.SeatLists.{to_elem, at_place, Each}
use Rattle.commit_board.proofs.OneSeat.{each_set}
use Rattle.commit_board.specs.declared.log.Log.{Log}
use Rattle.commit_board.specs.BoardRule.{board_of, FitsReader}

pub clash : {A : Type 0} (b : Bool) → b ≡ true → b ≡ false → A
clash b is not = absurd (true≢false (sym is ∙ not))

module _ {A : Type 0} (F : ℕ → A → Type 0) (l : List A) where
  pub each_last : (a : A) → Each F l → F (length l) a → Each F (l ++ a ∷ [])
  each_last a all last j u e =
      ⊎_elim (λ (there : get_elem? l j ≡ some u). all j u there)
      (λ (t : (j ≡ length l) × (a ≡ u)). subst (λ (y : ℕ × A). F y.0 y.1) (λ k. (sym t.0 k, t.1 k)) last) (at_place l a u j e)

  pub each_two : (i k : ℕ) (a b : A) → F i a → F k b → ((j : ℕ) (u : A) → j ≢ i → j ≢ k → get_elem? l j ≡ some u → F j u)
      → Each F (set (set l i a) k b)
  each_two i k a b first second others =
      each_set F (set l i a) k b second
      (λ j u apart e.
      ⊎_elim (λ (t : (j ≡ i) × (a ≡ u)). subst (λ (y : ℕ × A). F y.0 y.1) (λ m. (sym t.0 m, t.1 m)) first)
      (λ (t : (j ≢ i) × (get_elem? l j ≡ some u)). others j u t.0 apart t.1) (at_set l i j a u e))

pub map_back : {A B : Type 0} (f : A → B) (l : List A) (k : ℕ) (y : B) → get_elem? (map f l) k ≡ some y
    → (a : A) × (get_elem? l k ≡ some a) × (f a ≡ y)
map_back f [] k y e = absurd (some-ne-none y (sym e))
map_back f (x ∷ xs) zero y e = (x, refl, some-injective (f x) y e)
map_back f (x ∷ xs) (suc k) y e = map_back f xs k y e

-- the words and what all readers saw are a board
pub is_board : (words : List ℕ) (views : List Log) → Each (λ k v. FitsReader words v) views → IsBoard (board_of words views)
is_board words views fits = record {
  written = refl;
  read = λ k r view at less.
      let m = map_back (λ (v : Log). v.seen) views k view (to_elem (map (λ (v : Log). v.seen) views) k view at) in
      subst (λ (l : List (ℕ × ℕ)). IsTrue (rises_to (slice_index words r) (heights_of r l))) m.2 (fits k m.0 m.1 r less);
}
