-- What the code of one step did, in a cluster `w` that equals `now`.
use Rattle.ledger_model.specs.Meanings.{Meanings}
use Rattle.std.proofs.Common.{◌≡◌, ℕ, ◌<◌, List, [], ◌∷◌, ◌++◌, length, sym, subst}
use Rattle.std.specs.Prelude.{IfSome, IsSomeAnd, slice_index_or, slice_set}
use Rattle.ledger_model.specs.declared.event.Event.{Event}
use Rattle.ledger_model.specs.declared.world.WorldStep.{WorldStep}
use Rattle.ledger_model.specs.declared.world.WorldReply.TheVariants as answer
use Rattle.ledger_model.specs.declared.world.WorldRefusal.TheVariants as refused
use Rattle.ledger_model.specs.Limits.{max_history_len}
use Rattle.ledger_model.specs.Worlds.{event_of}
use Rattle.locked_replica.specs.States.{StateView}
use Rattle.adversary_net.specs.declared.party.Party.{Party}
use Rattle.adversary_net.specs.WorldViews.{WorldView, IsCluster, state_in, world_of}
use Rattle.adversary_net.specs.Steps.{AppliesTo, StaysAs, IsReady, Went}
use Rattle.adversary_net.proofs.Running.{Found, found, stepped, not_stepped, no_room, place_within, lent_room}

module _ (meaning : Meanings) {w now : WorldView} (is_now : w ≡ now) (cluster : IsCluster meaning w) (s : WorldStep) {r : ℕ} {e : Event}
    (asked : IsReady now (event_of now.config (world_of now) s) r e) where
  -- the step is this event at this replica
  ready : IsReady w (event_of w.config (world_of w) s) r e
  ready = subst (λ (x : WorldView). IsReady x (event_of x.config (world_of x) s) r e) (sym is_now) asked

  -- the replica
  at : Found meaning w r
  at = found meaning w s r e cluster ready

  -- without memory for the order
  pub without_room : (order : List ℕ) → order ≡ w.order
      → Went meaning now (record { config = w.config; ring = w.ring; parties = w.parties; order = order }) s
      (answer.Refused refused.NoMemory)
  without_room order is =
      subst (λ (x : WorldView). Went meaning x (record { config = w.config; ring = w.ring; parties = w.parties; order = order }) s
      (answer.Refused refused.NoMemory)) is_now (no_room meaning w r order s e cluster ready is)

  module _ {i : ℕ} (place : i ≡ r) where
    pub is_within : i < length w.parties
    is_within = place_within meaning w i r at place

    module _ {lent : Party StateView} (is : lent ≡ slice_index_or w.parties i lent) where
      pub has_room : IsSomeAnd (state_in lent) (λ x. length x.entries < max_history_len)
      has_room = lent_room meaning w i r lent at place is

      -- without memory for the entry
      pub left_alone : (p : Party StateView) (order : List ℕ) → IfSome (state_in lent) (λ x. StaysAs x e p) → order ≡ w.order
          → Went meaning now (record { config = w.config; ring = w.ring; parties = slice_set w.parties i p; order = order }) s
          (answer.Refused refused.NoMemory)
      left_alone p order stays same =
          subst (λ (x : WorldView). Went meaning x (record {
            config = w.config;
            ring = w.ring;
            parties = slice_set w.parties i p;
            order = order;
          }) s
          (answer.Refused refused.NoMemory)) is_now (not_stepped meaning w i r lent p order s e cluster ready place is stays same)

      -- with one entry more
      pub taken : (index : ℕ) (p : Party StateView) (order : List ℕ) → IfSome (state_in lent) (λ x. AppliesTo meaning x e index p)
          → order ≡ w.order ++ r ∷ []
          → Went meaning now (record { config = w.config; ring = w.ring; parties = slice_set w.parties i p; order = order }) s
          (answer.Done r index)
      taken index p order applied grown =
          subst (λ (x : WorldView). Went meaning x (record {
            config = w.config;
            ring = w.ring;
            parties = slice_set w.parties i p;
            order = order;
          }) s
          (answer.Done r index)) is_now (stepped meaning w i r index lent p order s e cluster ready place is applied grown)
