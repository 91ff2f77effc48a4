-- Which event a step stands for: which replicas it may name, and why it is refused.
use Rattle.ledger_model.specs.Meanings.{Meanings}
use Rattle.std.proofs.Common.{◌≡◌, ℕ, zero, suc, ◌<◌, ◌≤◌, inr, Bool, true, false, not, ◌&&◌, cond, List, [], ◌∷◌, length, refl, sym, ap}
use Rattle.std.proofs.Common.{subst, ◌∙◌, arith}
use Rattle.std.specs.Prelude.{nat_lt, nat_le, Option, Some, None, is_some, Result, Ok, Err, MatchBool, slice_get, option_map}
use Rattle.std.specs.Prelude.{option_and_then}
use Rattle.std.proofs.lemmas.Bool.{lt-ltb, le-leb, le-ltb, lt-leb}
use Rattle.std.proofs.lemmas.Option.{slice_get_within}
use Rattle.ledger_model.specs.declared.config.Config.{Config}
use Rattle.ledger_model.specs.declared.event.Event.{Event}
use Rattle.ledger_model.specs.declared.event.Event.TheVariants as event
use Rattle.ledger_model.specs.declared.world.WorldRefusal.{WorldRefusal}
use Rattle.ledger_model.specs.declared.world.WorldRefusal.TheVariants as refused
use Rattle.ledger_model.specs.declared.world.WorldReply.TheVariants as answer
use Rattle.ledger_model.specs.Groups.{history_of, is_correct}
use Rattle.ledger_model.specs.Worlds.{World, entries_in, frames_sent, fault_at, fault_of_two, asks, passes, Adds, Refuses}
use Rattle.locked_replica.specs.States.{StateView}
use Rattle.adversary_net.specs.declared.party.Party.{Party}
use Rattle.adversary_net.specs.declared.party.Party.TheVariants as party
use Rattle.adversary_net.specs.WorldViews.{WorldView, IsCluster, state_in, state_at, history_in, world_of}
use Rattle.adversary_net.specs.Steps.{fault_in, Refused, IsReady}
use Rattle.adversary_net.proofs.Members.{history_at}
use Rattle.ledger_model.specs.Limits.{max_history_len}

-- ---- which replicas there are

pub its_history : (meaning : Meanings) (c : WorldView) (r : ℕ) → IsCluster meaning c
    → history_of (world_of c).histories r ≡ option_map history_in (state_at c r)
its_history meaning c r cluster = history_at c.parties r (λ j s is. (cluster.members j s is).id)

-- the entries of a correct replica
pub its_entries : (meaning : Meanings) (c : WorldView) (r : ℕ) (s : StateView) → IsCluster meaning c → state_at c r ≡ Some s
    → entries_in (world_of c) r ≡ s.entries
its_entries meaning c r s cluster is =
    let found : history_of (world_of c).histories r ≡ Some (history_in s) = its_history meaning c r cluster
    ∙ ap (option_map history_in) is in
    simp found

-- who is no correct replica has no entries
pub no_entries : (meaning : Meanings) (c : WorldView) (r : ℕ) → IsCluster meaning c → state_at c r ≡ None → entries_in (world_of c) r ≡ []
no_entries meaning c r cluster is =
    let none : history_of (world_of c).histories r ≡ None = its_history meaning c r cluster ∙ ap (option_map history_in) is in
    simp none

-- the correct replicas are those with a state
pub known : (meaning : Meanings) (c : WorldView) (r : ℕ) (o : Option StateView) → IsCluster meaning c → state_at c r ≡ o
    → is_correct (world_of c).histories r ≡ is_some o
known meaning c r o cluster is = ap is_some (its_history meaning c r cluster ∙ ap (option_map history_in) is) ∙ some o
  where
    some : (x : Option StateView) → is_some (option_map history_in x) ≡ is_some x
    some None = refl
    some (Some s) = refl

get_none : {X : Type 0} → (xs : List X) (i : ℕ) → slice_get xs i ≡ None → length xs ≤ i
get_none [] i e = omega arith
get_none (x ∷ xs) zero e = cc
get_none (x ∷ xs) (suc i) e = omega (arith, get_none xs i e)

fault_from : (config : Config) (w : World) (r : ℕ) (b : Bool) → nat_lt r config.replicas ≡ true → is_correct w.histories r ≡ b
    → fault_at config w r ≡ cond (not b) (Some refused.Liar) None
fault_from config w r b near is = rw (near, is) refl

-- a step may name the correct replicas alone
pub fault_is : (meaning : Meanings) (c : WorldView) (r : ℕ) → IsCluster meaning c → (o : Option (Party StateView))
    → slice_get c.parties r ≡ o
    → fault_at c.config (world_of c) r ≡ fault_in o
fault_is meaning c r cluster None at =
    let far : nat_lt r c.config.replicas ≡ false = le-ltb r c.config.replicas (omega (arith, get_none c.parties r at, cluster.size)) in
    rw far refl
fault_is meaning c r cluster (Some (party.Correct s)) at =
    let near : nat_lt r c.config.replicas ≡ true =
    lt-ltb r c.config.replicas (omega (arith, slice_get_within c.parties r (party.Correct s) at, cluster.size)) in
    fault_from c.config (world_of c) r true near
    (ap is_some (its_history meaning c r cluster) ∙ ap (λ o. is_some (option_map history_in (option_and_then state_in o))) at)
fault_is meaning c r cluster (Some (party.Liar keys)) at =
    let near : nat_lt r c.config.replicas ≡ true =
    lt-ltb r c.config.replicas (omega (arith, slice_get_within c.parties r (party.Liar keys) at, cluster.size)) in
    fault_from c.config (world_of c) r false near
    (ap is_some (its_history meaning c r cluster) ∙ ap (λ o. is_some (option_map history_in (option_and_then state_in o))) at)

-- ---- why a step is refused

pub refuses : (meaning : Meanings) (c : WorldView) (asked : Result (ℕ × Event) WorldRefusal) (f : WorldRefusal) → asked ≡ Err f
    → Refused meaning c asked f
refuses meaning c asked f is = subst (λ o. Refused meaning c o f) (sym is) (refl, refl)

pub full : (meaning : Meanings) (c : WorldView) (asked : Result (ℕ × Event) WorldRefusal) (r : ℕ) (e : Event) → asked ≡ Ok (r, e)
    → max_history_len ≤ length (entries_in (world_of c) r) → Refused meaning c asked refused.HistoryFull
full meaning c asked r e is le =
    let no_room : nat_le max_history_len (length (entries_in (world_of c) r)) ≡ true =
    le-leb max_history_len (length (entries_in (world_of c) r)) le in
    subst (λ o. Refused meaning c o refused.HistoryFull) (sym is)
    (subst (λ b. MatchBool b (Refuses (world_of c) refused.HistoryFull (answer.Refused refused.HistoryFull) (world_of c))
    (Adds meaning c.config c.ring (world_of c) r e (answer.Refused refused.HistoryFull) (world_of c))) (sym no_room) (refl, refl))

pub no_memory : (meaning : Meanings) (c : WorldView) (asked : Result (ℕ × Event) WorldRefusal) (r : ℕ) (e : Event) → IsReady c asked r e
    → Refused meaning c asked refused.NoMemory
no_memory meaning c asked r e ready =
    let room : nat_le max_history_len (length (entries_in (world_of c) r)) ≡ false =
    lt-leb max_history_len (length (entries_in (world_of c) r)) ready.room in
    subst (λ o. Refused meaning c o refused.NoMemory) (sym ready.is)
    (subst (λ b. MatchBool b (Refuses (world_of c) refused.HistoryFull (answer.Refused refused.NoMemory) (world_of c))
    (Adds meaning c.config c.ring (world_of c) r e (answer.Refused refused.NoMemory) (world_of c))) (sym room) (inr (refl, refl)))

-- ---- one replica

pub asks_fault : (config : Config) (w : World) (r : ℕ) (e : Event) (f : WorldRefusal) → fault_at config w r ≡ Some f
    → asks config w r e ≡ Err f
asks_fault config w r e f is = rw is refl

pub asks_event : (config : Config) (w : World) (r : ℕ) (e : Event) → fault_at config w r ≡ None → asks config w r e ≡ Ok (r, e)
asks_event config w r e is = rw is refl

-- ---- two replicas

abbrev fault_by : Bool → Bool → Option WorldRefusal
fault_by near is = cond (not near) (Some refused.NoSuchReplica) (cond (not is) (Some refused.Liar) None)

abbrev two_by : Bool → Bool → Bool → Bool → Option WorldRefusal
two_by near also is too = cond (not (near && also)) (Some refused.NoSuchReplica) (cond (not (is && too)) (Some refused.Liar) None)

both_fine : (near also is too : Bool) → fault_by near is ≡ None → fault_by also too ≡ None → two_by near also is too ≡ None
both_fine true true true true e d = refl
both_fine false also is too e d = cc
both_fine true also false too e d = cc
both_fine true false true too e d = cc
both_fine true true true false e d = cc

first_lies : (is too : Bool) (f : WorldRefusal) → fault_by true is ≡ Some f → two_by true true is too ≡ Some f
first_lies false too f e = e
first_lies true too f e = cc

second_lies : (is too : Bool) (f : WorldRefusal) → fault_by true is ≡ None → fault_by true too ≡ Some f → two_by true true is too ≡ Some f
second_lies true false f e d = d
second_lies true true f e d = cc
second_lies false too f e d = cc

pub no_fault_of_two : (config : Config) (w : World) (from to : ℕ) → fault_at config w from ≡ None → fault_at config w to ≡ None
    → fault_of_two config w from to ≡ None
no_fault_of_two config w from to e d =
    both_fine (nat_lt from config.replicas) (nat_lt to config.replicas) (is_correct w.histories from) (is_correct w.histories to) e d

pub first_far : (config : Config) (w : World) (from to : ℕ) → config.replicas ≤ from
    → fault_of_two config w from to ≡ Some refused.NoSuchReplica
first_far config w from to le = rw (le-ltb from config.replicas le) refl

pub second_far : (config : Config) (w : World) (from to : ℕ) → config.replicas ≤ to
    → fault_of_two config w from to ≡ Some refused.NoSuchReplica
second_far config w from to le =
    let far : nat_lt to config.replicas ≡ false = le-ltb to config.replicas le in
    elim (nat_lt from config.replicas)
    as (λ b. cond (not (b && nat_lt to config.replicas)) (Some refused.NoSuchReplica)
    (cond (not (is_correct w.histories from && is_correct w.histories to)) (Some refused.Liar) None) ≡ Some refused.NoSuchReplica) [
      | true ↦ rw far refl
      | false ↦ refl
    ]

pub first_liar : (config : Config) (w : World) (from to : ℕ) (f : WorldRefusal) → from < config.replicas → to < config.replicas
    → fault_at config w from ≡ Some f → fault_of_two config w from to ≡ Some f
first_liar config w from to f near also is =
    let n : nat_lt from config.replicas ≡ true = lt-ltb from config.replicas near in
    let a : nat_lt to config.replicas ≡ true = lt-ltb to config.replicas also in
    let e : fault_by true (is_correct w.histories from) ≡ Some f = subst (λ b. fault_by b (is_correct w.histories from) ≡ Some f) n is in
    subst (λ b. two_by b (nat_lt to config.replicas) (is_correct w.histories from) (is_correct w.histories to) ≡ Some f) (sym n)
    (subst (λ b. two_by true b (is_correct w.histories from) (is_correct w.histories to) ≡ Some f) (sym a)
    (first_lies (is_correct w.histories from) (is_correct w.histories to) f e))

pub second_liar : (config : Config) (w : World) (from to : ℕ) (f : WorldRefusal) → from < config.replicas → to < config.replicas
    → fault_at config w from ≡ None → fault_at config w to ≡ Some f → fault_of_two config w from to ≡ Some f
second_liar config w from to f near also none is =
    let n : nat_lt from config.replicas ≡ true = lt-ltb from config.replicas near in
    let a : nat_lt to config.replicas ≡ true = lt-ltb to config.replicas also in
    let d : fault_by true (is_correct w.histories from) ≡ None = subst (λ b. fault_by b (is_correct w.histories from) ≡ None) n none in
    let e : fault_by true (is_correct w.histories to) ≡ Some f = subst (λ b. fault_by b (is_correct w.histories to) ≡ Some f) a is in
    subst (λ b. two_by b (nat_lt to config.replicas) (is_correct w.histories from) (is_correct w.histories to) ≡ Some f) (sym n)
    (subst (λ b. two_by true b (is_correct w.histories from) (is_correct w.histories to) ≡ Some f) (sym a)
    (second_lies (is_correct w.histories from) (is_correct w.histories to) f d e))

pub passes_fault : (config : Config) (w : World) (from index to : ℕ) (f : WorldRefusal) → fault_of_two config w from to ≡ Some f
    → passes config w from index to ≡ Err f
passes_fault config w from index to f is = rw is refl

pub passes_none : (config : Config) (w : World) (from index to : ℕ) → fault_of_two config w from to ≡ None
    → slice_get (frames_sent (entries_in w from)) index ≡ None
    → passes config w from index to ≡ Err refused.NoSuchFrame
passes_none config w from index to fine none = rw (fine, none) refl

pub passes_frame : (config : Config) (w : World) (from index to : ℕ) (bytes : List ℕ) → fault_of_two config w from to ≡ None
    → slice_get (frames_sent (entries_in w from)) index ≡ Some bytes
    → passes config w from index to ≡ Ok (to, event.Deliver bytes)
passes_frame config w from index to bytes fine some = rw (fine, some) refl
