-- An entry is taken if its reply is the one that is due.
use Rattle.ledger_model.specs.Meanings.{Meanings}
use Rattle.std.proofs.Common.{◌≡◌, ℕ, Bool, true, false, List, [], ◌∷◌, ◌++◌, refl, sym, ap, subst, ◌∙◌}
use Rattle.std.specs.Prelude.{◌↔◌, IsTrue, Option, Some, None, Result, Ok, Err}
use Rattle.ledger_model.specs.declared.event.Event.{Event}
use Rattle.ledger_model.specs.declared.event.Event.TheVariants as event
use Rattle.ledger_model.specs.declared.history.Entry.{Entry}
use Rattle.ledger_model.specs.declared.reply.BlockResult.{BlockResult}
use Rattle.ledger_model.specs.declared.reply.Ignored.{Ignored}
use Rattle.ledger_model.specs.declared.reply.LastRound.{LastRound}
use Rattle.ledger_model.specs.declared.reply.NotHeld.{NotHeld}
use Rattle.ledger_model.specs.declared.reply.NothingDecided.{NothingDecided}
use Rattle.ledger_model.specs.declared.reply.ProposeRefusal.{ProposeRefusal}
use Rattle.ledger_model.specs.declared.reply.QueryAnswer.{QueryAnswer}
use Rattle.ledger_model.specs.declared.reply.Reply.{Reply}
use Rattle.ledger_model.specs.declared.reply.Reply.TheVariants as reply
use Rattle.ledger_model.specs.declared.reply.RetireRefusal.{RetireRefusal}
use Rattle.ledger_model.specs.declared.reply.RoundEnded.{RoundEnded}
use Rattle.ledger_model.specs.declared.reply.SubmitRefusal.{SubmitRefusal}
use Rattle.ledger_model.specs.Values.{Value}
use Rattle.ledger_model.specs.Lawful.{Lawful, is_signed_reply}
use Rattle.replica_core.specs.Replays.{ReplayView, MatchesHistory}
use Rattle.replica_core.specs.Steps.{IsStep, after_execute, after_retire}
use Rattle.replica_core.specs.Following.{KeepsReplay, IsFollowed, IsSameReplay}

-- an entry that keeps no replay one is refused
pub refused : (meaning : Meanings) (old new : ReplayView) (event : Event) (reply : Reply)
    → ((entries : List Entry) → MatchesHistory meaning old entries → KeepsReplay meaning old entries event reply → ⊥)
    → IsFollowed meaning old event reply false new
refused meaning old new event reply none = record {
  exact = λ entries matches. (λ yes. absurd (cc yes), λ keeps. absurd (none entries matches keeps));
  matches = λ yes entries matches. absurd (cc yes);
}

-- an answer is compared with the one that is due, where only one is lawful
pub compared : (meaning : Meanings) → {R : Type 0} (old new : ReplayView) (event : Event) (wrap : R → Reply) (lawful : List Entry → R)
    (due shown : R)
    (kept : Bool) → (kept ≡ true ↔ due ≡ shown)
    → ((entries : List Entry) (r : R) → Lawful meaning old.config old.ring old.id entries event (wrap r) → r ≡ lawful entries)
    → ((r : R) → IsTrue (is_signed_reply old.ring (wrap r)))
    → IsStep meaning old event (wrap due) new → IsFollowed meaning old event (wrap shown) kept new
compared meaning old new event wrap lawful due shown kept same one signed step = record {
  exact = λ entries matches. (
    λ yes. record {
      lawful = subst (λ r. Lawful meaning old.config old.ring old.id entries event (wrap r)) (same.0 yes) (step entries matches).0;
      signed = signed shown;
    },
    λ keeps. same.1 (one entries due (step entries matches).0 ∙ sym (one entries shown keeps.lawful)),
  );
  matches = λ yes entries matches. subst (λ r. MatchesHistory meaning new (entries ++ record { event = event; reply = wrap r } ∷ []))
      (same.0 yes)
      (step entries matches).2;
}

-- ---- the same replica

-- where nothing changed
pub same_kept : (old new : ReplayView) → new ≡ old → IsSameReplay old new
same_kept old new is = record { config = ap (λ h. h.config) is; id = ap (λ h. h.id) is; ring = ap (λ h. h.ring) is }

-- where only the heights did
pub same_rows : (old new : ReplayView) → new ≡ record old { rows = new.rows } → IsSameReplay old new
same_rows old new is = record { config = ap (λ h. h.config) is; id = ap (λ h. h.id) is; ring = ap (λ h. h.ring) is }

-- where a block was run
pub same_run : (meaning : Meanings) (old new : ReplayView) (block : Option Value) → new ≡ after_execute meaning old block
    → IsSameReplay old new
same_run meaning old new None is = same_kept old new is
same_run meaning old new (Some block) is = record { config = ap (λ h. h.config) is; id = ap (λ h. h.id) is; ring = ap (λ h. h.ring) is }

-- where heights were given up
pub same_retired : (old new : ReplayView) (answer : Result ℕ RetireRefusal) → new ≡ after_retire old answer
    → IsSameReplay old new
same_retired old new (Err f) is = same_kept old new is
same_retired old new (Ok f) is = record { config = ap (λ h. h.config) is; id = ap (λ h. h.id) is; ring = ap (λ h. h.ring) is }

-- ---- each event has replies of its own

module _ (meaning : Meanings) (held : ReplayView) (entries : List Entry) where
  abbrev LawfulTo : Event → Reply → Type 0
  LawfulTo event reply = Lawful meaning held.config held.ring held.id entries event reply

  pub submitted_only : (tx : List ℕ) (shown : Reply) → ((r : Result (Unit {0}) SubmitRefusal) → shown ≡ reply.Submitted r → ⊥)
      → LawfulTo (event.Submit tx) shown → ⊥
  submitted_only tx (reply.Submitted r) other lawful = other r refl
  submitted_only tx (reply.Proposed r) other lawful = lawful
  submitted_only tx (reply.Delivered r) other lawful = lawful
  submitted_only tx (reply.RoundEnded r) other lawful = lawful
  submitted_only tx (reply.Executed r) other lawful = lawful
  submitted_only tx (reply.Queried r) other lawful = lawful
  submitted_only tx (reply.Retired r) other lawful = lawful

  pub proposed_only : (h : ℕ) (shown : Reply) → ((r : Result Value ProposeRefusal) → shown ≡ reply.Proposed r → ⊥)
      → LawfulTo (event.Propose h) shown → ⊥
  proposed_only h (reply.Submitted r) other lawful = lawful
  proposed_only h (reply.Proposed r) other lawful = other r refl
  proposed_only h (reply.Delivered r) other lawful = lawful
  proposed_only h (reply.RoundEnded r) other lawful = lawful
  proposed_only h (reply.Executed r) other lawful = lawful
  proposed_only h (reply.Queried r) other lawful = lawful
  proposed_only h (reply.Retired r) other lawful = lawful

  pub delivered_only : (bytes : List ℕ) (shown : Reply) → ((r : Result (Unit {0}) Ignored) → shown ≡ reply.Delivered r → ⊥)
      → LawfulTo (event.Deliver bytes) shown → ⊥
  delivered_only bytes (reply.Submitted r) other lawful = lawful
  delivered_only bytes (reply.Proposed r) other lawful = lawful
  delivered_only bytes (reply.Delivered r) other lawful = other r refl
  delivered_only bytes (reply.RoundEnded r) other lawful = lawful
  delivered_only bytes (reply.Executed r) other lawful = lawful
  delivered_only bytes (reply.Queried r) other lawful = lawful
  delivered_only bytes (reply.Retired r) other lawful = lawful

  pub ended_only : (shown : Reply) → ((r : Result RoundEnded LastRound) → shown ≡ reply.RoundEnded r → ⊥) → LawfulTo event.RoundEnd shown
      → ⊥
  ended_only (reply.Submitted r) other lawful = lawful
  ended_only (reply.Proposed r) other lawful = lawful
  ended_only (reply.Delivered r) other lawful = lawful
  ended_only (reply.RoundEnded r) other lawful = other r refl
  ended_only (reply.Executed r) other lawful = lawful
  ended_only (reply.Queried r) other lawful = lawful
  ended_only (reply.Retired r) other lawful = lawful

  pub executed_only : (shown : Reply) → ((r : Result BlockResult NothingDecided) → shown ≡ reply.Executed r → ⊥)
      → LawfulTo event.Execute shown → ⊥
  executed_only (reply.Submitted r) other lawful = lawful
  executed_only (reply.Proposed r) other lawful = lawful
  executed_only (reply.Delivered r) other lawful = lawful
  executed_only (reply.RoundEnded r) other lawful = lawful
  executed_only (reply.Executed r) other lawful = other r refl
  executed_only (reply.Queried r) other lawful = lawful
  executed_only (reply.Retired r) other lawful = lawful

  pub queried_only : (key : List ℕ) (h : ℕ) (shown : Reply) → ((r : Result QueryAnswer NotHeld) → shown ≡ reply.Queried r → ⊥)
      → LawfulTo (event.Query key h) shown → ⊥
  queried_only key h (reply.Submitted r) other lawful = lawful
  queried_only key h (reply.Proposed r) other lawful = lawful
  queried_only key h (reply.Delivered r) other lawful = lawful
  queried_only key h (reply.RoundEnded r) other lawful = lawful
  queried_only key h (reply.Executed r) other lawful = lawful
  queried_only key h (reply.Queried r) other lawful = other r refl
  queried_only key h (reply.Retired r) other lawful = lawful

  pub retired_only : (floor : ℕ) (shown : Reply) → ((r : Result ℕ RetireRefusal) → shown ≡ reply.Retired r → ⊥)
      → LawfulTo (event.Retire floor) shown → ⊥
  retired_only floor (reply.Submitted r) other lawful = lawful
  retired_only floor (reply.Proposed r) other lawful = lawful
  retired_only floor (reply.Delivered r) other lawful = lawful
  retired_only floor (reply.RoundEnded r) other lawful = lawful
  retired_only floor (reply.Executed r) other lawful = lawful
  retired_only floor (reply.Queried r) other lawful = lawful
  retired_only floor (reply.Retired r) other lawful = other r refl
