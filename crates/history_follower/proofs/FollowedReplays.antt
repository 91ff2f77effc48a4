-- A history that is followed entry by entry: how far it is a replay.
use Rattle.ledger_model.specs.Meanings.{Meanings}
use Rattle.std.specs.Prelude.{◌↔◌, IsTrue}
use Rattle.std.proofs.Common.{◌≡◌, ℕ, ◌+◌, ◌<◌, Bool, true, false, List, [], ◌∷◌, ◌++◌, length, take, sym, subst, ◌∙◌, append_assoc}
use Rattle.std.proofs.lemmas.List.{append-nil}
use Rattle.ledger_model.specs.declared.config.Config.{Config}
use Rattle.ledger_model.specs.declared.event.Event.{Event}
use Rattle.ledger_model.specs.declared.reply.Reply.{Reply}
use Rattle.ledger_model.specs.declared.history.Entry.{Entry}
use Rattle.ledger_model.specs.Rules.{Ring}
use Rattle.ledger_model.specs.Lawful.{Lawful, Replay, ReplaysFrom, is_signed_reply}
use Rattle.ledger_model.proofs.Steps.{replays_snoc}
use Rattle.replica_core.specs.Replays.{ReplayView}
use Rattle.replica_core.specs.Following.{KeepsReplay, IsSameReplay}
use Rattle.history_follower.specs.Followers.{StopsAt}

-- an entry that continues the replay of one state continues that of another of the same replica
pub keeps_as : (meaning : Meanings) (a b : ReplayView) (xs : List Entry) (event : Event) (reply : Reply) → IsSameReplay a b
    → KeepsReplay meaning b xs event reply → KeepsReplay meaning a xs event reply
keeps_as meaning a b xs event reply same keeps = record {
  lawful = subst (λ c. Lawful meaning c a.ring a.id xs event reply) same.config
      (subst (λ r. Lawful meaning b.config r a.id xs event reply) same.ring
      (subst (λ i. Lawful meaning b.config b.ring i xs event reply) same.id keeps.lawful));
  signed = subst (λ r. IsTrue (is_signed_reply r reply)) same.ring keeps.signed;
}

pub keeps_from : (meaning : Meanings) (a b : ReplayView) (xs : List Entry) (event : Event) (reply : Reply) → IsSameReplay a b
    → KeepsReplay meaning a xs event reply → KeepsReplay meaning b xs event reply
keeps_from meaning a b xs event reply same keeps =
    keeps_as meaning b a xs event reply (record { config = sym same.config; id = sym same.id; ring = sym same.ring }) keeps

-- the same replica, one step later
pub same_later : (a b c : ReplayView) → IsSameReplay a b → IsSameReplay b c → IsSameReplay a c
same_later a b c first second = record {
  config = second.config ∙ first.config;
  id = second.id ∙ first.id;
  ring = second.ring ∙ first.ring;
}

-- one entry more
pub replay_more : (meaning : Meanings) (a b : ReplayView) (xs : List Entry) (e : Entry) → IsSameReplay a b
    → Replay meaning a.config a.ring a.id xs → KeepsReplay meaning b xs e.event e.reply → Replay meaning a.config a.ring a.id (xs ++ e ∷ [])
unfolding Replay
replay_more meaning a b xs e same replay keeps =
    let kept = keeps_as meaning a b xs e.event e.reply same keeps in
    replays_snoc meaning a.config a.ring a.id [] xs e replay kept.lawful kept.signed

-- the last entry of a replay continues it
last_kept : (meaning : Meanings) (config : Config) (ring : Ring) (id : ℕ) (front xs : List Entry) (e : Entry)
    → ReplaysFrom meaning config ring id front (xs ++ e ∷ [])
    → Lawful meaning config ring id (front ++ xs) e.event e.reply × IsTrue (is_signed_reply ring e.reply)
unfolding ReplaysFrom
last_kept meaning config ring id front [] e replays =
    (subst (λ es. Lawful meaning config ring id es e.event e.reply) (sym (append-nil front)) (replays.0), replays.1)
last_kept meaning config ring id front (x ∷ xs) e replays =
    let later = last_kept meaning config ring id (front ++ x ∷ []) xs e (replays.2) in
    (subst (λ es. Lawful meaning config ring id es e.event e.reply) (append_assoc front (x ∷ []) xs) (later.0), later.1)

-- an entry that wasn't taken ends the replay
pub replay_ends : (meaning : Meanings) (a b : ReplayView) (entries : List Entry) (i : ℕ) (e : Entry) (kept : Bool) → IsSameReplay a b
    → i < length entries → take (i + 1) entries ≡ take i entries ++ e ∷ []
    → Replay meaning a.config a.ring a.id (take i entries)
    → kept ≡ true ↔ KeepsReplay meaning b (take i entries) e.event e.reply → kept ≡ false → StopsAt meaning a.config a.ring a.id entries i
unfolding Replay
replay_ends meaning a b entries i e kept same inside split replay exact lost = record {
  inside = inside;
  before = replay;
  broken = λ whole.
      let last = last_kept meaning a.config a.ring a.id [] (take i entries) e
      (subst (ReplaysFrom meaning a.config a.ring a.id []) split whole) in
      let keeps = keeps_from meaning a b (take i entries) e.event e.reply same (record { lawful = last.0; signed = last.1 }) in
      let taken : kept ≡ true = exact.1 keeps in
      cc;
}
