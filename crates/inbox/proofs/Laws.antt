-- Each step preserves the invariant of an inbox.
use Rattle.std.proofs.Common.{◌≡◌, ◌≢◌, ℕ, ◌<◌, ◌≤◌, List, [], ◌∷◌, ◌++◌, length, sym, ap, ◌∙◌, ⊎_elim, arith, append_assoc, length-append}
use Rattle.std.specs.Prelude.{Some, slice_get, slice_set}
use mathlib.Core.Option.{some}
use lib.ListN.{get_elem?}
use Rattle.crossbeam_queue.proofs.Lists.{at_set}
use Rattle.ledger_model.specs.Inboxes.{Put, Inbox, of_pass, IsInbox}
use Rattle.ledger_model.proofs.SeatLists.{to_elem, from_elem, at_place}
use Rattle.inbox.proofs.Lists.{of_both, last_own, last_other, passed_on}

-- after a put by a pass that had put the ones before
abbrev pub after_put : Inbox → Put → List Put → Inbox
after_put b x before = record b { put = slice_set b.put x.pass (before ++ x ∷ []); held = b.held ++ x ∷ [] }

-- after a take that leaves the rest
abbrev pub after_take : Inbox → Put → List Put → Inbox
after_take b x rest = record b { taken = b.taken ++ x ∷ []; held = rest }

-- after the next pass is made
abbrev pub after_pass : Inbox → Inbox
after_pass b = record b { put = b.put ++ [] ∷ [] }

-- nothing is of a pass that isn't
abbrev pub NoStrangers : Inbox → Type 0
NoStrangers b = (p : ℕ) → length b.put ≤ p → of_pass p (b.taken ++ b.held) ≡ []

pub put_keeps : (b : Inbox) (x : Put) (before : List Put) → IsInbox b → slice_get b.put x.pass ≡ Some before → length b.held < 1024
    → IsInbox (after_put b x before)
put_keeps b x before is had room = record {
  kept = λ p items at.
      ⊎_elim (λ (here : (p ≡ x.pass) × (before ++ x ∷ [] ≡ items)).
      let old : before ≡ of_pass p b.taken ++ of_pass p b.held = is.kept p before (ap (slice_get b.put) here.0 ∙ had) in
      sym here.1 ∙ ap (λ (l : List Put). l ++ x ∷ []) old ∙ append_assoc (of_pass p b.taken) (of_pass p b.held) (x ∷ [])
      ∙ ap (λ (l : List Put). of_pass p b.taken ++ l) (sym (last_own p b.held x (sym here.0))))
      (λ (there : (p ≢ x.pass) × (get_elem? b.put p ≡ some items)).
      is.kept p items (from_elem b.put p items there.1)
      ∙ ap (λ (l : List Put). of_pass p b.taken ++ l) (sym (last_other p b.held x (λ e. there.0 (sym e)))))
      (at_set b.put x.pass p (before ++ x ∷ []) items (to_elem (slice_set b.put x.pass (before ++ x ∷ [])) p items at));
  small = omega (arith, length-append b.held (x ∷ []));
}

pub take_keeps : (b : Inbox) (x : Put) (rest : List Put) → IsInbox b → b.held ≡ x ∷ rest → IsInbox (after_take b x rest)
take_keeps b x rest is first = record {
  kept = λ p items at. is.kept p items at ∙ ap (λ (l : List Put). of_pass p b.taken ++ of_pass p l) first
      ∙ sym (passed_on p b.taken x rest);
  small = let n : length b.held ≡ length (x ∷ rest) = ap length first in let s = is.small in omega arith;
}

pub pass_keeps : (b : Inbox) → IsInbox b → NoStrangers b → IsInbox (after_pass b)
pass_keeps b is none = record {
  kept = λ p items at.
      ⊎_elim (λ (there : get_elem? b.put p ≡ some items). is.kept p items (from_elem b.put p items there))
      (λ (last : (p ≡ length b.put) × ([] ≡ items)). sym last.1 ∙ sym (none p (omega arith)) ∙ of_both p b.taken b.held)
      (at_place b.put [] items p (to_elem (b.put ++ [] ∷ []) p items at));
  small = is.small;
}
