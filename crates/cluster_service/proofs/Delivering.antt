-- The first block among the entries of a history that has a transaction, entry by entry.
use Rattle.std.proofs.Common.{◌≡◌, ℕ, ◌+◌, ◌≤◌, List, ◌∷◌, suc, length, drop, ap, sym, ◌∙◌, arith}
use Rattle.std.specs.Option.{option_or}
use Rattle.std.specs.Prelude.{Some, None, slice_get}
use Rattle.std.proofs.Math.ListN.{drop_of_length-le}
use Rattle.std.proofs.Math.Seq.{drop-cons}
use Rattle.std.proofs.lemmas.Option.{get_or_from_slice_get, slice_get_within}
use Rattle.ledger_model.specs.Values.{Value}
use Rattle.ledger_model.specs.declared.history.Entry.{Entry}
use Rattle.ledger_model.specs.declared.reply.Reply.{Reply}
use Rattle.cluster_service.specs.Deliveries.{delivered_by, delivered_in}

module _ (batches : List Value) (es : List Entry) (tx : List ℕ) (i : ℕ) where
  -- no entries are left
  pub none_left : length es ≤ i → delivered_in batches (drop i es) tx ≡ None
  none_left past = ap (λ l. delivered_in batches l tx) (drop_of_length-le es past)

  module _ (e : Entry) (is : slice_get es i ≡ Some e) (r : Reply) (same : r ≡ e.reply) where
    split : drop i es ≡ e ∷ drop (suc i) es
    split = drop-cons es i e (slice_get_within es i e is) ∙ ap (λ x. x ∷ drop (suc i) es) (get_or_from_slice_get es i e e is)

    -- the entry says it
    pub found_here : (found : ℕ × ℕ) → Some found ≡ delivered_by batches r tx → Some found ≡ delivered_in batches (drop i es) tx
    found_here found by =
        sym (ap (λ l. delivered_in batches l tx) split
        ∙ ap (λ o. option_or o (delivered_in batches (drop (suc i) es) tx)) (sym (by ∙ ap (λ s. delivered_by batches s tx) same)))

    -- the entry says nothing
    pub not_here : None ≡ delivered_by batches r tx → delivered_in batches (drop (i + 1) es) tx ≡ delivered_in batches (drop i es) tx
    not_here by =
        let next : i + 1 ≡ suc i = omega arith in
        ap (λ n. delivered_in batches (drop n es) tx) next
        ∙ sym (ap (λ l. delivered_in batches l tx) split
        ∙ ap (λ o. option_or o (delivered_in batches (drop (suc i) es) tx)) (sym (by ∙ ap (λ s. delivered_by batches s tx) same)))
