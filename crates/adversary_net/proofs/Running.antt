-- A step preserves the invariants of a running cluster.
use Rattle.ledger_model.specs.Meanings.{Meanings}
use Rattle.std.proofs.Common.{◌≡◌, ℕ, ◌+◌, ◌<◌, ◌≤◌, inl, inr, true, false, ◌&&◌, cond, List, [], ◌∷◌, ◌++◌, length, map, refl, sym, ap}
use Rattle.std.proofs.Common.{subst, ◌∙◌, arith}
use Rattle.std.specs.Prelude.{nat_lt, nat_le, Option, Some, None, is_some, Result, Ok, Err, IfSome, IsSomeAnd, MatchBool, unwrap_or}
use Rattle.std.specs.Prelude.{slice_get, slice_index_or, slice_set, option_map, option_and_then}
use Rattle.std.specs.List.{filter_map}
use Rattle.std.proofs.Math.ListN.{length-set}
use Rattle.std.proofs.lemmas.Bool.{cases_Bool, eq-eqb, lt-leb}
use Rattle.std.proofs.lemmas.Option.{slice_get_within, unwrap_or-slice_get}
use Rattle.ledger_model.specs.declared.config.Config.{Config}
use Rattle.ledger_model.specs.declared.event.Event.{Event}
use Rattle.ledger_model.specs.declared.event.Event.TheVariants as event
use Rattle.ledger_model.specs.declared.history.Entry.{Entry}
use Rattle.ledger_model.specs.declared.history.History.{History}
use Rattle.ledger_model.specs.declared.world.WorldStep.{WorldStep}
use Rattle.ledger_model.specs.declared.world.WorldStep.TheVariants as step
use Rattle.ledger_model.specs.declared.world.WorldReply.{WorldReply}
use Rattle.ledger_model.specs.declared.world.WorldReply.TheVariants as answer
use Rattle.ledger_model.specs.declared.world.WorldRefusal.{WorldRefusal}
use Rattle.ledger_model.specs.declared.world.WorldRefusal.TheVariants as refused
use Rattle.ledger_model.specs.Applications.{run}
use Rattle.ledger_model.specs.Commits.{commits_of}
use Rattle.ledger_model.specs.Groups.{is_correct}
use Rattle.ledger_model.specs.Lawful.{Lawful, Replay}
use Rattle.ledger_model.specs.Rules.{Ring}
use Rattle.ledger_model.specs.Timelines.{AreReplicas}
use Rattle.ledger_model.specs.Worlds.{World, beginning, entries_in, frames_sent, with_entry, asks, passes, event_of, StepsBy, Adds, Refuses}
use Rattle.ledger_model.specs.Worlds.{Runs}
use Rattle.ledger_laws.proofs.Unforged.{asks_only}
use Rattle.ledger_laws.proofs.WorldRuns.{names_correct, runs_append}
use Rattle.key_ring.specs.Signers.{leaves_of}
use Rattle.replica_core.proofs.SpentLeaves.{account_still}
use Rattle.replica_core.proofs.LeafOrder.{once_still}
use Rattle.locked_replica.specs.States.{StateView, RunsAlone, AccountsForLeaves, SignsEachOnce, may_lose}
use Rattle.adversary_net.specs.declared.party.Party.{Party}
use Rattle.adversary_net.specs.declared.party.Party.TheVariants as party
use Rattle.adversary_net.specs.WorldViews.{WorldView, IsCluster, IsMemberAt, IsSameCluster, state_in, state_at, correct_of, history_in}
use Rattle.adversary_net.specs.WorldViews.{world_of}
use Rattle.adversary_net.specs.Leaves.{UsesButFor, loss_at, lost_at}
use Rattle.adversary_net.specs.Steps.{AppliesAt, AppliesTo, Stays, StaysAs, ResolvesTo, IsReady, Went}
use Rattle.adversary_net.proofs.Members.{histories, histories_added, histories_same, roles_same, set_cases, added_numbers}
use Rattle.adversary_net.proofs.Members.{numbers_of_histories}
use Rattle.adversary_net.proofs.UsedLeaves.{uses_set, none_lost, some_lost, each_none}
use Rattle.adversary_net.proofs.Asking.{its_history, its_entries, no_memory}
use Rattle.ledger_model.specs.Limits.{max_history_len}

-- one step more
pub runs_one : (meaning : Meanings) (config : Config) (ring : Ring) (w mid new : World) (steps : List WorldStep) (answers : List WorldReply)
    (s : WorldStep)
    (a : WorldReply)
    → Runs meaning config ring w steps answers mid → StepsBy meaning config ring mid (event_of config mid s) a new
    → Runs meaning config ring w (steps ++ s ∷ []) (answers ++ a ∷ []) new
unfolding Runs
runs_one meaning config ring w mid new steps answers s a runs by =
    runs_append meaning config ring w mid new steps (s ∷ []) answers (a ∷ []) runs (new, by, refl)

-- ---- the replica that a step is at

party_of : (o : Option (Party StateView)) (s : StateView) → option_and_then state_in o ≡ Some s → o ≡ Some (party.Correct s)
party_of None s is = cc
party_of (Some (party.Correct x)) s is = cc
party_of (Some (party.Liar keys)) s is = cc

some_state : (o : Option StateView) → is_some (option_map history_in o) ≡ true → (s : StateView) × (o ≡ Some s)
some_state None is = cc
some_state (Some s) is = (s, refl)

-- a correct replica with room
pub record Found (meaning : Meanings) (c : WorldView) (r : ℕ) : Type 0 where
  pub state : StateView
  pub there : slice_get c.parties r ≡ Some (party.Correct state)
  pub entries : entries_in (world_of c) r ≡ state.entries
  pub member : IsMemberAt meaning c r state
  pub room : length state.entries < max_history_len

pub found : (meaning : Meanings) (c : WorldView) (s : WorldStep) (r : ℕ) (e : Event) → IsCluster meaning c
    → IsReady c (event_of c.config (world_of c) s) r e → Found meaning c r
found meaning c s r e cluster ready =
    let is = names_correct c.config (world_of c) s r e ready.is in
    let own = some_state (state_at c r) (sym (ap is_some (its_history meaning c r cluster)) ∙ is) in
    let entries = its_entries meaning c r own.0 cluster own.1 in
    record {
      state = own.0;
      there = party_of (slice_get c.parties r) own.0 own.1;
      entries = entries;
      member = cluster.members r own.0 own.1;
      room = subst (λ (es : List Entry). length es < max_history_len) entries ready.room;
    }

-- ---- the leaves that it may lose

abbrev event_in : Result (ℕ × Event) WorldRefusal → Event
event_in (Ok p) = p.1
event_in (Err f) = event.RoundEnd

abbrev delivered_to : ℕ → Option (List ℕ) → Result (ℕ × Event) WorldRefusal
delivered_to to None = Err refused.NoSuchFrame
delivered_to to (Some bytes) = Ok (to, event.Deliver bytes)

-- a pass is a delivery
passed : (config : Config) (w : World) (from index to r : ℕ) (e : Event) → passes config w from index to ≡ Ok (r, e) → (s : StateView)
    → may_lose s e ≡ 0
passed config w from index to r e ok s =
    elim (cases_Bool (nat_lt from config.replicas && nat_lt to config.replicas)) [
      | inr far ↦ absurd (let no = simp far at ok in cc)
      | inl near ↦ elim (cases_Bool (is_correct w.histories from && is_correct w.histories to)) [
        | inr liar ↦ absurd (let no = simp (near, liar) at ok in cc)
        | inl are ↦ frame (slice_get (frames_sent (entries_in w from)) index) (simp (near, are) at ok)
      ]
    ]
  where
    frame : (o : Option (List ℕ)) → delivered_to to o ≡ Ok (r, e) → may_lose s e ≡ 0
    frame None given = cc
    frame (Some bytes) given = ap (may_lose s) (sym (ap event_in given))

-- at most the number that the event may use
loss_here : (config : Config) (w : World) (s : WorldStep) (r : ℕ) (e : Event) → event_of config w s ≡ Ok (r, e) → (x : StateView)
    → loss_at s r x ≡ may_lose x e
unfolding event_of
loss_here config w (step.Submit q bytes) r e ok x = ap (may_lose x) (asks_only config w q r (event.Submit bytes) e ok).1
loss_here config w (step.Propose q h) r e ok x = ap (may_lose x) (asks_only config w q r (event.Propose h) e ok).1
loss_here config w (step.RoundEnd q) r e ok x =
    let is = asks_only config w q r event.RoundEnd e ok in
    ap (λ b. cond b (may_lose x event.RoundEnd) 0) (eq-eqb r q (sym is.0)) ∙ ap (may_lose x) is.1
loss_here config w (step.Execute q) r e ok x = ap (may_lose x) (asks_only config w q r event.Execute e ok).1
loss_here config w (step.Query q key h) r e ok x = ap (may_lose x) (asks_only config w q r (event.Query key h) e ok).1
loss_here config w (step.Retire q floor) r e ok x = ap (may_lose x) (asks_only config w q r (event.Retire floor) e ok).1
loss_here config w (step.Pass from index to) r e ok x = sym (passed config w from index to r e ok x)
loss_here config w (step.Inject q bytes) r e ok x = ap (may_lose x) (asks_only config w q r (event.Deliver bytes) e ok).1

-- ---- the cluster with another party in the place of one

abbrev pub with_party : WorldView → ℕ → Party StateView → List ℕ → WorldView
with_party c r p order = record { config = c.config; ring = c.ring; parties = slice_set c.parties r p; order = order }

-- a member of the cluster is one of another that has the config and the ring
pub member_still : (meaning : Meanings) (c d : WorldView) (r : ℕ) (s : StateView) → d.config ≡ c.config → d.ring ≡ c.ring
    → IsMemberAt meaning c r s → IsMemberAt meaning d r s
member_still meaning c d r s config ring member = record {
  config = member.config ∙ sym config;
  ring = member.ring ∙ sym ring;
  id = member.id;
  replay = subst (λ (k : Config). Replay meaning k d.ring r s.entries) (sym config)
      (subst (λ (l : Ring). Replay meaning c.config l r s.entries) (sym ring) member.replay);
  machine = subst (λ (k : Config). s.machine ≡ run meaning k.kind (commits_of k r s.entries)) (sym config) member.machine;
  account = member.account;
  once = member.once;
}

members_set : (meaning : Meanings) (c : WorldView) (r : ℕ) (new : StateView) (order : List ℕ) → IsCluster meaning c
    → IsMemberAt meaning c r new
    → (q : ℕ) (s : StateView) → state_at (with_party c r (party.Correct new) order) q ≡ Some s
    → IsMemberAt meaning (with_party c r (party.Correct new) order) q s
members_set meaning c r new order cluster member q s is =
    let d = with_party c r (party.Correct new) order in
    let at = party_of (slice_get (slice_set c.parties r (party.Correct new)) q) s is in
    elim (set_cases c.parties r q (party.Correct new) (party.Correct s) at) [
      | inl here ↦
          let same : new ≡ s = same_state here.1 in
          subst (λ k. IsMemberAt meaning d k s) (sym here.0)
          (subst (IsMemberAt meaning d r) same (member_still meaning c d r new refl refl member))
      | inr there ↦ member_still meaning c d q s refl refl (cluster.members q s (ap (option_and_then state_in) there))
    ]
  where
    same_state : party.Correct new ≡ party.Correct s → new ≡ s
    same_state e = cc

-- with a member in the place of one, of the same number and secret
went : (meaning : Meanings) (c : WorldView) (r : ℕ) (new : StateView) (order : List ℕ) (s : WorldStep) (a : WorldReply)
    → IsCluster meaning c → (at : Found meaning c r)
    → IsMemberAt meaning c r new → new.secret ≡ at.state.secret
    → map (λ (m : History). m.replica) (histories (slice_set c.parties r (party.Correct new)))
    ≡ map (λ (m : History). m.replica) (histories c.parties)
    → UsesButFor (lost_at s a r at.state) at.state new
    → StepsBy meaning c.config c.ring (world_of c) (event_of c.config (world_of c) s) a
    (world_of (with_party c r (party.Correct new) order))
    → Went meaning c (with_party c r (party.Correct new) order) s a
went meaning c r new order s a cluster at member secret numbers uses by =
    let d = with_party c r (party.Correct new) order in
    let correct : correct_of d ≡ correct_of c =
    sym (numbers_of_histories (filter_map state_in (slice_set c.parties r (party.Correct new)))) ∙ numbers
    ∙ numbers_of_histories (filter_map state_in c.parties) in
    record {
      cluster = record {
        size = length-set c.parties r (party.Correct new) ∙ cluster.size;
        members = members_set meaning c r new order cluster member;
        replicas = subst (AreReplicas c.config) (sym correct) cluster.replicas;
        ran = record {
          steps = cluster.ran.steps ++ s ∷ [];
          answers = cluster.ran.answers ++ a ∷ [];
          runs = subst (λ (rs : List ℕ). Runs meaning c.config c.ring (beginning rs) (cluster.ran.steps ++ s ∷ [])
              (cluster.ran.answers ++ a ∷ [])
              (world_of d)) (sym correct)
              (runs_one meaning c.config c.ring (beginning (correct_of c)) (world_of c)
              (world_of d) cluster.ran.steps cluster.ran.answers s a
              cluster.ran.runs by);
        };
      };
      answered = record {
        steps = by;
        same = record { config = refl; ring = refl; roles = roles_same c.parties r at.state new at.there secret };
        leaves = uses_set c.parties r at.state new at.there (lost_at s a) uses;
      };
    }

-- ---- an event was applied

same_party : (p q : StateView) → party.Correct p ≡ party.Correct q → p ≡ q
same_party p q e = cc

room_is : (meaning : Meanings) (c : WorldView) (r : ℕ) → (at : Found meaning c r)
    → nat_le max_history_len (length (entries_in (world_of c) r)) ≡ false
room_is meaning c r at = lt-leb max_history_len (length (entries_in (world_of c) r)) (omega (arith, at.room, ap length at.entries))

added_member : (meaning : Meanings) (c : WorldView) (r index : ℕ) (e : Event) (new : StateView) → (at : Found meaning c r)
    → AppliesAt meaning at.state e index new
    → IsMemberAt meaning c r new
unfolding RunsAlone
added_member meaning c r index e new at applied =
    let config : new.config ≡ c.config = ap (λ (s : StateView). s.config) applied.applies.rest ∙ at.member.config in
    let ring : new.ring ≡ c.ring = ap (λ (s : StateView). s.ring) applied.applies.rest ∙ at.member.ring in
    let id : new.id ≡ r = ap (λ (s : StateView). s.id) applied.applies.rest ∙ at.member.id in
    record {
      config = config;
      ring = ring;
      id = id;
      replay = rw (sym config, sym ring, sym id) applied.sound.replay;
      machine = rw (sym config, sym id) applied.sound.machine;
      account = applied.sound.account;
      once = applied.sound.once;
    }

-- with one entry more
pub went_on : (meaning : Meanings) (c : WorldView) (r index : ℕ) (new : StateView) (s : WorldStep) (e : Event) → IsCluster meaning c
    → IsReady c (event_of c.config (world_of c) s) r e → (at : Found meaning c r)
    → AppliesAt meaning at.state e index new → Went meaning c (with_party c r (party.Correct new) (c.order ++ r ∷ [])) s
    (answer.Done r index)
went_on meaning c r index new s e cluster ready at applied =
    let d = with_party c r (party.Correct new) (c.order ++ r ∷ []) in
    let entry : Entry = record { event = e; reply = applied.applies.reply } in
    let id : new.id ≡ at.state.id = ap (λ (s : StateView). s.id) applied.applies.rest in
    let grown = histories_added c.parties r at.state new entry (λ j t is. (cluster.members j t is).id) at.there id applied.applies.added in
    let world : world_of d ≡ with_entry (world_of c) r entry =
    ap (λ (hs : List History). record { histories = hs; order = c.order ++ r ∷ [] }) grown in
    let lawful : Lawful meaning c.config c.ring r (entries_in (world_of c) r) e applied.applies.reply =
    rw (at.entries, sym at.member.config, sym at.member.ring, sym at.member.id) applied.applies.lawful in
    let done : answer.Done r index ≡ answer.Done r (length (entries_in (world_of c) r)) =
    ap (answer.Done r) (applied.place ∙ ap length (sym at.entries)) in
    let by : StepsBy meaning c.config c.ring (world_of c) (event_of c.config (world_of c) s) (answer.Done r index) (world_of d) =
    subst (λ o. StepsBy meaning c.config c.ring (world_of c) o (answer.Done r index) (world_of d)) (sym ready.is)
    (subst (λ b. MatchBool b (Refuses (world_of c) refused.HistoryFull (answer.Done r index) (world_of d))
    (Adds meaning c.config c.ring (world_of c) r e (answer.Done r index) (world_of d))) (sym (room_is meaning c r at))
    (inl (applied.applies.reply, lawful, done, world))) in
    went meaning c r new (c.order ++ r ∷ []) s (answer.Done r index) cluster at (added_member meaning c r index e new at applied)
    (ap (λ (s : StateView). s.secret) applied.applies.rest)
    (ap (map (λ (m : History). m.replica)) grown ∙ added_numbers r entry (histories c.parties)) (none_lost at.state new applied.applies.used) by

-- without memory
pub stayed : (meaning : Meanings) (c : WorldView) (r : ℕ) (new : StateView) (s : WorldStep) (e : Event) → IsCluster meaning c
    → IsReady c (event_of c.config (world_of c) s) r e → (at : Found meaning c r)
    → Stays at.state e new → Went meaning c (with_party c r (party.Correct new) c.order) s (answer.Refused refused.NoMemory)
stayed meaning c r new s e cluster ready at stays =
    let d = with_party c r (party.Correct new) c.order in
    let is = stays.same in
    let id : new.id ≡ at.state.id = ap (λ (s : StateView). s.id) is in
    let entries : new.entries ≡ at.state.entries = ap (λ (s : StateView). s.entries) is in
    let same = histories_same c.parties r at.state new at.there id entries in
    let world : world_of d ≡ world_of c = ap (λ (hs : List History). record { histories = hs; order = c.order }) same in
    let member : IsMemberAt meaning c r new = record {
      config = ap (λ (s : StateView). s.config) is ∙ at.member.config;
      ring = ap (λ (s : StateView). s.ring) is ∙ at.member.ring;
      id = id ∙ at.member.id;
      replay = subst (Replay meaning c.config c.ring r) (sym entries) at.member.replay;
      machine = ap (λ (s : StateView). s.machine) is ∙ at.member.machine
          ∙ ap (λ es. run meaning c.config.kind (commits_of c.config r es)) (sym entries);
      account = subst (λ (t : StateView). AccountsForLeaves t) (sym is)
          (account_still at.state.config at.state.id (leaves_of at.state.secret) at.state.used new.used at.state.entries stays.least
          at.member.account);
      once = subst (λ (t : StateView). SignsEachOnce t) (sym is)
          (once_still at.state.secret at.state.used new.used at.state.entries stays.least at.member.once);
    } in
    let by : StepsBy meaning c.config c.ring (world_of c) (event_of c.config (world_of c) s) (answer.Refused refused.NoMemory)
    (world_of d) =
    subst (λ o. StepsBy meaning c.config c.ring (world_of c) o (answer.Refused refused.NoMemory) (world_of d)) (sym ready.is)
    (subst (λ b. MatchBool b (Refuses (world_of c) refused.HistoryFull (answer.Refused refused.NoMemory) (world_of d))
    (Adds meaning c.config c.ring (world_of c) r e (answer.Refused refused.NoMemory) (world_of d))) (sym (room_is meaning c r at))
    (inr (refl, world))) in
    went meaning c r new c.order s (answer.Refused refused.NoMemory) cluster at member (ap (λ (s : StateView). s.secret) is)
    (ap (map (λ (m : History). m.replica)) same)
    (some_lost (loss_at s r at.state) at.state new entries stays.least
    (subst (λ n. new.used ≤ at.state.used + n) (sym (loss_here c.config (world_of c) s r e ready.is at.state)) stays.most)) by

pub same_as : (c : WorldView) → IsSameCluster c c
same_as c = record { config = refl; ring = refl; roles = refl }

-- the step was refused before
pub refused_step : (meaning : Meanings) (c : WorldView) (s : WorldStep) (f : WorldRefusal) → IsCluster meaning c
    → ResolvesTo meaning c s (Err f) → Went meaning c c s (answer.Refused f)
refused_step meaning c s f cluster asked =
    record { cluster = cluster; answered = record { steps = asked; same = same_as c; leaves = each_none c s (answer.Refused f) } }

-- ---- what the code did

-- without memory for the order
pub no_room : (meaning : Meanings) (c : WorldView) (r : ℕ) (order : List ℕ) (s : WorldStep) (e : Event) → IsCluster meaning c
    → IsReady c (event_of c.config (world_of c) s) r e → order ≡ c.order
    → Went meaning c (record { config = c.config; ring = c.ring; parties = c.parties; order = order }) s (answer.Refused refused.NoMemory)
no_room meaning c r order s e cluster ready is =
    subst (λ o. Went meaning c (record { config = c.config; ring = c.ring; parties = c.parties; order = o }) s
    (answer.Refused refused.NoMemory))
    (sym is)
    (refused_step meaning c s refused.NoMemory cluster (no_memory meaning c (event_of c.config (world_of c) s) r e ready))

-- the borrowed party is the correct replica
pub lent_is : (meaning : Meanings) (c : WorldView) (i r : ℕ) (lent : Party StateView) → (at : Found meaning c r) → i ≡ r
    → lent ≡ slice_index_or c.parties i lent
    → lent ≡ party.Correct at.state
lent_is meaning c i r lent at place is =
    is ∙ ap (λ k. slice_index_or c.parties k lent) place ∙ sym (unwrap_or-slice_get c.parties r lent) ∙ ap (λ o. unwrap_or o lent) at.there

-- a step that was taken
pub stepped : (meaning : Meanings) (c : WorldView) (i r index : ℕ) (lent p : Party StateView) (order : List ℕ) (s : WorldStep) (e : Event)
    → IsCluster meaning c → IsReady c (event_of c.config (world_of c) s) r e → i ≡ r → lent ≡ slice_index_or c.parties i lent
    → IfSome (state_in lent) (λ x. AppliesTo meaning x e index p) → order ≡ c.order ++ r ∷ []
    → Went meaning c (record { config = c.config; ring = c.ring; parties = slice_set c.parties i p; order = order }) s (answer.Done r index)
stepped meaning c i r index lent p order s e cluster ready place is applied grown =
    let at = found meaning c s r e cluster ready in
    let here : AppliesTo meaning at.state e index p =
    subst (λ q. IfSome (state_in q) (λ x. AppliesTo meaning x e index p)) (lent_is meaning c i r lent at place is) applied in
    subst (λ k. Went meaning c (record { config = c.config; ring = c.ring; parties = slice_set c.parties k p; order = order }) s
    (answer.Done r index)) (sym place)
    (subst (λ o. Went meaning c (with_party c r p o) s (answer.Done r index)) (sym grown)
    (subst (λ q. Went meaning c (with_party c r q (c.order ++ r ∷ [])) s (answer.Done r index)) (sym here.1.0)
    (went_on meaning c r index here.0 s e cluster ready at here.1.1)))

-- a step for which there was no memory
pub not_stepped : (meaning : Meanings) (c : WorldView) (i r : ℕ) (lent p : Party StateView) (order : List ℕ) (s : WorldStep) (e : Event)
    → IsCluster meaning c → IsReady c (event_of c.config (world_of c) s) r e → i ≡ r → lent ≡ slice_index_or c.parties i lent
    → IfSome (state_in lent) (λ x. StaysAs x e p) → order ≡ c.order
    → Went meaning c (record { config = c.config; ring = c.ring; parties = slice_set c.parties i p; order = order }) s
    (answer.Refused refused.NoMemory)
not_stepped meaning c i r lent p order s e cluster ready place is stays same =
    let at = found meaning c s r e cluster ready in
    let here : StaysAs at.state e p = subst (λ q. IfSome (state_in q) (λ x. StaysAs x e p))
    (lent_is meaning c i r lent at place is) stays in
    subst (λ k. Went meaning c (record { config = c.config; ring = c.ring; parties = slice_set c.parties k p; order = order }) s
    (answer.Refused refused.NoMemory)) (sym place)
    (subst (λ o. Went meaning c (with_party c r p o) s (answer.Refused refused.NoMemory)) (sym same)
    (subst (λ q. Went meaning c (with_party c r q c.order) s (answer.Refused refused.NoMemory)) (sym here.1.0)
    (stayed meaning c r here.0 s e cluster ready at here.1.1)))

-- the step is at a replica of the cluster, which is correct and has room
pub place_within : (meaning : Meanings) (c : WorldView) (i r : ℕ) → Found meaning c r → i ≡ r → i < length c.parties
place_within meaning c i r at place = subst (λ k. k < length c.parties) (sym place)
    (slice_get_within c.parties r (party.Correct at.state) at.there)

pub lent_room : (meaning : Meanings) (c : WorldView) (i r : ℕ) (lent : Party StateView) → (at : Found meaning c r) → i ≡ r
    → lent ≡ slice_index_or c.parties i lent
    → IsSomeAnd (state_in lent) (λ x. length x.entries < max_history_len)
lent_room meaning c i r lent at place is =
    subst (λ q. IsSomeAnd (state_in q) (λ x. length x.entries < max_history_len)) (sym (lent_is meaning c i r lent at place is)) at.room

-- ---- steps, one after another

pub same_still : (c d : WorldView) → IsSameCluster c d → (e : WorldView) → IsSameCluster d e → IsSameCluster c e
same_still c d first e then = record {
  config = then.config ∙ first.config;
  ring = then.ring ∙ first.ring;
  roles =
      then.roles ∙ first.roles;
}

-- a run with one step more
pub run_more : (meaning : Meanings) (c d e : WorldView) (steps : List WorldStep) (answers : List WorldReply) (s : WorldStep)
    (a : WorldReply)
    → Runs meaning c.config c.ring (world_of c) steps answers (world_of d) → IsSameCluster c d → Went meaning d e s a
    → Runs meaning c.config c.ring (world_of c) (steps ++ s ∷ []) (answers ++ a ∷ []) (world_of e)
run_more meaning c d e steps answers s a runs same went =
    runs_one meaning c.config c.ring (world_of c) (world_of d) (world_of e) steps answers s a runs
    (subst (λ k. StepsBy meaning k c.ring (world_of d) (event_of k (world_of d) s) a (world_of e)) same.config
    (subst (λ l. StepsBy meaning d.config l (world_of d) (event_of d.config (world_of d) s) a (world_of e)) same.ring went.answered.steps))

pub no_steps : (meaning : Meanings) (c : WorldView) → Runs meaning c.config c.ring (world_of c) [] [] (world_of c)
unfolding Runs
no_steps meaning c = refl
