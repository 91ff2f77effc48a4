-- What the taking pass learns about the putting passes.
use Rattle.std.proofs.Common.{◌≡◌, ℕ, List, [], ◌∷◌, ◌++◌, length, refl, ap, ◌∙◌, arith}
use Rattle.std.specs.Prelude.{Some, slice_get}
use Rattle.std.proofs.lemmas.List.{append-nil, nil_from_length}
use Rattle.crossbeam_queue.proofs.Lists.{at_last}
use Rattle.ledger_model.specs.Inboxes.{Put, Inbox, of_pass, IsInbox}
use Rattle.inbox.specs.declared.log.Log.{Log}
use Rattle.inbox.specs.Passes.{AllTaken, IsShared}
use Rattle.inbox.specs.InboxRule.{Behind, with_ended}
use Rattle.ledger_model.proofs.SeatLists.{from_elem}

-- where nothing is held, what a pass put is what was taken of it
pub all_taken : (b : Inbox) (held taken : List Put) (ended : List (ℕ × List Put)) → IsInbox b → b.held ≡ held → b.taken ≡ taken
    → ((j : ℕ) (e : ℕ × List Put) → slice_get ended j ≡ Some e → slice_get b.put e.0 ≡ Some e.1)
    → length held ≡ 0 → AllTaken taken ended
all_taken b held taken ended is held_is taken_is had none k e at =
    let nothing : b.held ≡ [] = held_is ∙ nil_from_length held none in
    is.kept e.0 e.1 (had k e at) ∙ ap (λ (l : List Put). of_pass e.0 l ++ of_pass e.0 b.held) taken_is
    ∙ ap (λ (l : List Put). of_pass e.0 taken ++ of_pass e.0 l) nothing
    ∙ append-nil (of_pass e.0 taken)

pub shared : (v u : Log) (held : List Put) → Behind (with_ended v u) held → IsShared u.number u.items v.items held
shared v u held b =
    let end : ℕ × List Put = (u.number, u.items) in
    let had = b.ended (length v.ended) end
    (from_elem (v.ended ++ end ∷ []) (length v.ended) end (at_last v.ended end (length v.ended) refl)) in
    record {
      kept = b.is.kept u.number u.items had ∙ ap (λ (l : List Put). of_pass u.number l ++ of_pass u.number b.inbox.held) b.taken
          ∙ ap (λ (l : List Put). of_pass u.number v.items ++ of_pass u.number l) b.held_is;
      small = let s = b.is.small in let e : length b.inbox.held ≡ length held = ap length b.held_is in omega arith;
    }
