-- The counts of the frames of a history, entry by entry.
use Rattle.std.proofs.Common.{◌≡◌, ℕ, ◌+◌, ◌≤◌, ◌<◌, List, Bool, true, false, length, take, get_or, ap, sym, ◌∙◌, arith}
use Rattle.std.specs.Prelude.{Some, None, Result, slice_get}
use Rattle.std.proofs.lemmas.List.{length-take-le, take_all}
use Rattle.std.proofs.lemmas.List.Sums.{count_by-le-length, count_by_more_yes, count_by_more_no}
use Rattle.std.proofs.lemmas.Option.{get_or_from_slice_get, slice_get_within}
use Rattle.ledger_model.specs.Limits.{max_history_len}
use Rattle.ledger_model.specs.declared.history.Entry.{Entry}
use Rattle.ledger_model.specs.declared.reply.Ignored.{Ignored}
use Rattle.http_messages.specs.FrameCounts.{counted}
use Rattle.cluster_service.specs.FrameCounting.{deliveries_with, frame_answer, passes_test}

module _ (test : Result (Unit {0}) Ignored → Bool) (es : List Entry) (i : ℕ) where
  -- all entries were looked at
  pub all_counted : length es ≤ i → deliveries_with test (take i es) ≡ deliveries_with test es
  all_counted past = ap (deliveries_with test) (take_all i es past)

  module _ (e : Entry) (is : slice_get es i ≡ Some e) where
    within : i < length es
    within = slice_get_within es i e is

    passes_here : (b : Bool) → passes_test test (frame_answer e.reply) ≡ b → passes_test test (frame_answer (get_or es i e).reply) ≡ b
    passes_here b p = ap (λ (x : Entry). passes_test test (frame_answer x.reply)) (get_or_from_slice_get es i e e is) ∙ p

    grown : (b : Bool) → passes_test test (frame_answer e.reply) ≡ b → length es ≤ max_history_len
        → counted b (deliveries_with test (take i es)) ≡ deliveries_with test (take (i + 1) es)
    grown true p few =
        let more = count_by_more_yes (λ (x : Entry). passes_test test (frame_answer x.reply)) es i e within (passes_here true p) in
        let low = count_by-le-length (λ (x : Entry). passes_test test (frame_answer x.reply)) (take i es) in
        omega (arith, more, low, length-take-le i es (omega (arith, within)), within, few)
    grown false p few =
        sym (count_by_more_no (λ (x : Entry). passes_test test (frame_answer x.reply)) es i e within (passes_here false p))

    -- the entry is a delivery with this answer
    pub one_counted : (answer : Result (Unit {0}) Ignored) (n m : ℕ) → frame_answer e.reply ≡ Some answer → length es ≤ max_history_len
        → n ≡ deliveries_with test (take i es) → m ≡ counted (test answer) n → m ≡ deliveries_with test (take (i + 1) es)
    one_counted answer n m found few so_far after =
        after ∙ ap (counted (test answer)) so_far ∙ grown (test answer) (ap (passes_test test) found) few

    -- the entry is no delivery
    pub none_counted : frame_answer e.reply ≡ None → deliveries_with test (take i es) ≡ deliveries_with test (take (i + 1) es)
    none_counted none =
        sym (count_by_more_no (λ (x : Entry). passes_test test (frame_answer x.reply)) es i e within (passes_here false (ap (passes_test test) none)))
