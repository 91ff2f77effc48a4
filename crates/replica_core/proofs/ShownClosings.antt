-- How each height closes its round according to the frames, one height after the other.
use Rattle.std.proofs.Common.{◌≡◌, ℕ, ◌⊎◌, List, [], ◌∷◌, ◌++◌, length, map, sym, ap, ◌∙◌, arith, append-nil}
use Rattle.std.proofs.lemmas.List.{append_assoc, map-append}
use Rattle.ledger_model.specs.declared.statement.SignedStatement.{SignedStatement}
use Rattle.instance.specs.declared.round_statement.RoundStatement.{RoundStatement}
use Rattle.instance.specs.Instances.{InstanceView}
use Rattle.instance.specs.Plans.{RoundEffectsView}
use Rattle.height_row.specs.declared.round_closing.RoundClosing.{RoundClosing}
use Rattle.replica_core.proofs.PairedLists.{both_ended}
use Rattle.replica_core.specs.ShownEnds.{next_shown, left_next, made_of, made_each}

abbrev pub heights : List InstanceView → List ℕ
heights rows = map (λ row. row.height) rows

abbrev pub endings : List RoundClosing → List RoundEffectsView
endings xs = map (λ x. x.ending) xs

abbrev pub mades : List RoundClosing → List RoundStatement
mades xs = map (λ x. x.made) xs

-- what these frames have shown so far, and the heights, effects and statements that are left
pub record IsShowing (rows : List InstanceView) (ends : List RoundEffectsView) (all : List SignedStatement) (rows_left : List InstanceView)
    (ends_left : List RoundEffectsView) (left : List SignedStatement) (closings : List RoundClosing) : Type 0 where
  pub count : length ends_left ≡ length rows_left
  pub ended : endings closings ++ ends_left ≡ ends
  pub makes : mades closings ++ made_each (heights rows_left) left ≡ made_each (heights rows) all

module _ (rows : List InstanceView) (ends : List RoundEffectsView) (all : List SignedStatement) where
  -- with the next height there is one more
  pub showing_next : {rows_left : List InstanceView} {ends_left : List RoundEffectsView} (left : List SignedStatement)
      (closings : List RoundClosing) (row : InstanceView) (others : List InstanceView) (ending : RoundEffectsView)
      (rest : List RoundEffectsView) (closing : RoundClosing) (later : List SignedStatement)
      → IsShowing rows ends all rows_left ends_left left closings → rows_left ≡ row ∷ others → ends_left ≡ ending ∷ rest
      → closing.ending ≡ ending → closing.made ≡ made_of (next_shown row.height left) → later ≡ left_next row.height left
      → IsShowing rows ends all others rest later (closings ++ closing ∷ [])
  showing_next left closings row others ending rest closing later showing first next ends_so made left_is =
      let at = rw (first, next) at showing in
      record {
        count = let count = at.count in omega (arith, count);
        ended = ap (λ xs. xs ++ rest) (map-append (λ (x : RoundClosing). x.ending) closings (closing ∷ []))
            ∙ append_assoc (endings closings) (closing.ending ∷ []) rest
            ∙ ap (λ e. endings closings ++ e ∷ rest) ends_so
            ∙ at.ended;
        makes = ap (λ ms. ms ++ made_each (heights others) later) (map-append (λ (x : RoundClosing). x.made) closings (closing ∷ []))
            ∙ append_assoc (mades closings) (closing.made ∷ []) (made_each (heights others) later)
            ∙ ap (λ m. mades closings ++ m ∷ made_each (heights others) later) made
            ∙ ap (λ ss. mades closings ++ made_of (next_shown row.height left) ∷ made_each (heights others) ss) left_is
            ∙ at.makes;
      }

  -- in the end the frames have shown all of them
  both_end : {rows_left : List InstanceView} {ends_left : List RoundEffectsView} (left : List SignedStatement)
      (closings : List RoundClosing) → IsShowing rows ends all rows_left ends_left left closings
      → (rows_left ≡ []) ⊎ (length ends_left ≡ 0) → IsShowing rows ends all [] [] left closings
  both_end {rows_left = rows_left} {ends_left = ends_left} left closings showing end =
      let ended = both_ended rows_left ends_left showing.count end in
      rw (ended.0, ended.1) at showing

  module _ {rows_left : List InstanceView} {ends_left : List RoundEffectsView} (left : List SignedStatement) (closings : List RoundClosing)
      (showing : IsShowing rows ends all rows_left ends_left left closings) (end : (rows_left ≡ []) ⊎ (length ends_left ≡ 0)) where
    pub showing_ends : endings closings ≡ ends
    showing_ends = sym (append-nil (endings closings)) ∙ (both_end left closings showing end).ended

    pub showing_makes : mades closings ≡ made_each (heights rows) all
    showing_makes = sym (append-nil (mades closings)) ∙ (both_end left closings showing end).makes
