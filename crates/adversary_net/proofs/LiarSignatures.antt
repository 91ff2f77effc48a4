-- A liar's signature changes nothing but which of its leaves are used.
use Rattle.ledger_model.specs.Meanings.{Meanings}
use Rattle.std.proofs.Common.{◌≡◌, ℕ, zero, suc, ◌<◌, ◌≤◌, inl, inr, List, [], ◌∷◌, length, map, refl, sym, ap, subst, ◌∙◌, arith}
use Rattle.std.specs.Prelude.{Option, Some, None, Result, IfSome, IfNone, slice_get, slice_set, slice_index_or, option_and_then}
use Rattle.std.specs.List.{filter_map}
use Rattle.std.proofs.Math.ListN.{length-set}
use Rattle.std.proofs.lemmas.List.{set-get_or}
use Rattle.std.proofs.lemmas.Option.{slice_get_past}
use Rattle.ledger_model.specs.Timelines.{AreReplicas}
use Rattle.ledger_model.specs.Worlds.{beginning, Runs}
use Rattle.key_ring.specs.Signers.{SignerView}
use Rattle.key_ring.specs.declared.fault.SignFault.{SignFault}
use Rattle.locked_replica.specs.States.{StateView}
use Rattle.adversary_net.specs.declared.party.Party.{Party}
use Rattle.adversary_net.specs.declared.party.Party.TheVariants as party
use Rattle.adversary_net.specs.WorldViews.{WorldView, IsCluster, state_in, state_at, liar_in, liar_at, history_in, correct_of, world_of}
use Rattle.adversary_net.specs.WorldViews.{LiarSigns, SignsFor}
use Rattle.adversary_net.proofs.Members.{set_cases}
use Rattle.adversary_net.proofs.Running.{member_still}

-- the correct replicas stay
states_same : (parties : List (Party StateView)) (r : ℕ) (old new : SignerView) → slice_get parties r ≡ Some (party.Liar old)
    → filter_map state_in (slice_set parties r (party.Liar new)) ≡ filter_map state_in parties
states_same [] r old new at = cc
states_same (party.Correct s ∷ parties) zero old new at = cc
states_same (party.Liar keys ∷ parties) zero old new at = refl
states_same (party.Correct s ∷ parties) (suc r) old new at = ap (λ l. s ∷ l) (states_same parties r old new at)
states_same (party.Liar keys ∷ parties) (suc r) old new at = states_same parties r old new at

-- the cluster with other keys of a liar
abbrev pub with_keys : WorldView → ℕ → SignerView → WorldView
with_keys c r keys = record { config = c.config; ring = c.ring; parties = slice_set c.parties r (party.Liar keys); order = c.order }

is_state : (o : Option (Party StateView)) (s : StateView) → option_and_then state_in o ≡ Some s → o ≡ Some (party.Correct s)
is_state None s is = cc
is_state (Some (party.Correct x)) s is = cc
is_state (Some (party.Liar keys)) s is = cc

pub signed_cluster : (meaning : Meanings) (c : WorldView) (r : ℕ) (old new : SignerView) → IsCluster meaning c
    → slice_get c.parties r ≡ Some (party.Liar old)
    → IsCluster meaning (with_keys c r new)
signed_cluster meaning c r old new cluster at =
    let d = with_keys c r new in
    let states = states_same c.parties r old new at in
    let correct : correct_of d ≡ correct_of c = ap (map (λ (s : StateView). s.id)) states in
    let world : world_of d ≡ world_of c = ap (λ (l : List StateView). record { histories = map history_in l; order = c.order }) states in
    record {
      size = length-set c.parties r (party.Liar new) ∙ cluster.size;
      members = λ q s is. member_still meaning c d q s refl refl (cluster.members q s (was_there q s is));
      replicas = subst (AreReplicas c.config) (sym correct) cluster.replicas;
      ran = record {
        steps = cluster.ran.steps;
        answers = cluster.ran.answers;
        runs = subst (λ rs. Runs meaning c.config c.ring (beginning rs) cluster.ran.steps cluster.ran.answers (world_of d)) (sym correct)
            (subst (Runs meaning c.config c.ring (beginning (correct_of c)) cluster.ran.steps cluster.ran.answers)
            (sym world) cluster.ran.runs);
      };
    }
  where
    -- each correct replica was there before
    was_there : (q : ℕ) (s : StateView) → state_at (with_keys c r new) q ≡ Some s → state_at c q ≡ Some s
    was_there q s is = elim (set_cases c.parties r q (party.Liar new) (party.Correct s)
        (is_state (slice_get (slice_set c.parties r (party.Liar new)) q) s is)) [
          | inl here ↦ absurd (let no = here.1 in cc)
          | inr there ↦ ap (option_and_then state_in) there
        ]

liar_is : (o : Option (Party StateView)) (keys : SignerView) → option_and_then liar_in o ≡ Some keys → o ≡ Some (party.Liar keys)
liar_is None keys is = cc
liar_is (Some (party.Correct s)) keys is = cc
liar_is (Some (party.Liar k)) keys is = cc

-- for the definitions the world is as it was
pub signed_world : {X : Type 0} (view : X → List ℕ) (c : WorldView) (r : ℕ) (message : List ℕ) (answer : Result X SignFault)
    (d : WorldView) → SignsFor view c r message answer d → world_of d ≡ world_of c
signed_world view c r message answer d (old, new, (is, signs, same)) =
    ap world_of same
    ∙ ap (λ (l : List StateView). record { histories = map history_in l; order = c.order })
    (states_same c.parties r old new (liar_is (slice_get c.parties r) old is))

got : {X : Type 0} (xs : List X) (i : ℕ) (x : X) → i < length xs → x ≡ slice_index_or xs i x → slice_get xs i ≡ Some x
got [] i x lt is = absurd (omega arith)
got (y ∷ ys) zero x lt is = ap Some (sym is)
got (y ∷ ys) (suc i) x lt is = got ys i x (omega arith) is

-- what was put back changes nothing
pub signed_none : (c : WorldView) (i : ℕ) (lent p : Party StateView) → i < length c.parties → lent ≡ slice_index_or c.parties i lent
    → p ≡ lent
    → ◌≡◌ {A = WorldView} (record { config = c.config; ring = c.ring; parties = slice_set c.parties i p; order = c.order }) c
signed_none c i lent p within is same =
    let put : slice_set c.parties i p ≡ c.parties = ap (slice_set c.parties i) (same ∙ is) ∙ set-get_or c.parties i lent in
    ap (λ (ps : List (Party StateView)). record { config = c.config; ring = c.ring; parties = ps; order = c.order }) put

-- a liar's signature
pub signed_as : {X : Type 0} (view : X → List ℕ) (c : WorldView) (i : ℕ) (lent p : Party StateView) (message : List ℕ)
    (answer : Result X SignFault) → i < length c.parties → lent ≡ slice_index_or c.parties i lent
    → LiarSigns view lent message answer p
    → SignsFor view c i message answer (record { config = c.config; ring = c.ring; parties = slice_set c.parties i p; order = c.order })
signed_as view c i lent p message answer within is signs =
    let at : slice_get c.parties i ≡ Some lent = got c.parties i lent within is in (
      signs.0,
      signs.1,
      (
        ap (option_and_then liar_in) at
            ∙ ap liar_in signs.2.0,
        signs.2.2,
        ap (λ (q : Party StateView). record { config = c.config; ring = c.ring; parties = slice_set c.parties i q; order = c.order })
            signs.2.1,
      ),
    )

-- ---- whatever is answered, in a cluster `c` that equals `now`

module _ (meaning : Meanings) {X : Type 0} (view : X → List ℕ) {c now : WorldView} (is_now : c ≡ now) {i r : ℕ} (place : i ≡ r)
    (within : i < length c.parties)
    {lent : Party StateView} (is : lent ≡ slice_index_or c.parties i lent) (p : Party StateView) (message : List ℕ) where
  -- the cluster with the party that was put back
  abbrev after : WorldView
  after = record { config = c.config; ring = c.ring; parties = slice_set c.parties i p; order = c.order }

  -- what holds of each cluster still does
  pub signed_keeps : (result : Option (Result X SignFault)) → IsCluster meaning c
      → IfSome result (λ answer. LiarSigns view lent message answer p) → IfNone result (p ≡ lent) → IsCluster meaning after
  signed_keeps None cluster signs same = subst (IsCluster meaning) (sym (signed_none c i lent p within is same)) cluster
  signed_keeps (Some answer) cluster signs same =
      let at : slice_get c.parties i ≡ Some (party.Liar signs.0) = got c.parties i lent within is ∙ ap Some signs.2.0 in
      subst (λ q. IsCluster meaning (record { config = c.config; ring = c.ring; parties = slice_set c.parties i q; order = c.order }))
      (sym signs.2.1) (signed_cluster meaning c i signs.0 signs.1 cluster at)

  pub signs_after : (result : Option (Result X SignFault)) → IfSome result (λ answer. LiarSigns view lent message answer p)
      → IfSome result (λ answer. SignsFor view now r message answer after)
  signs_after None signs = tt
  signs_after (Some answer) signs =
      subst (λ d. SignsFor view d r message answer after) is_now
      (subst (λ k. SignsFor view c k message answer after) place (signed_as view c i lent p message answer within is signs))

  pub none_after : (result : Option (Result X SignFault)) → IfNone result (liar_in lent ≡ None) → IfNone result (liar_at now r ≡ None)
  none_after (Some answer) none = tt
  none_after None none =
      ap (λ d. liar_at d r) (sym is_now) ∙ ap (λ k. liar_at c k) (sym place)
      ∙ ap (option_and_then liar_in) (got c.parties i lent within is) ∙ none

  pub same_after : (result : Option (Result X SignFault)) → IfNone result (p ≡ lent) → IfNone result (after ≡ now)
  same_after (Some answer) same = tt
  same_after None same = signed_none c i lent p within is same ∙ is_now

-- a number past the last replica is no liar's
pub no_liar : {c now : WorldView} → c ≡ now → (r : ℕ) → length c.parties ≤ r → liar_at now r ≡ None
no_liar {c} is_now r past = ap (λ d. liar_at d r) (sym is_now) ∙ ap (option_and_then liar_in) (slice_get_past c.parties r past)
