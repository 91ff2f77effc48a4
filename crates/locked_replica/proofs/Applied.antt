-- A step preserves the invariant of a replica's type.
use Rattle.ledger_model.specs.Meanings.{Meanings}
use Rattle.std.proofs.Common.{◌≡◌, ◌+◌, ◌<◌, ◌≤◌, Bool, true, false, ◌&&◌, ◌||◌, cond, List, [], ◌∷◌, ◌++◌, length, refl, sym, ap, subst}
use Rattle.std.proofs.Common.{◌∙◌, length-append, arith}
use Rattle.std.specs.Prelude.{ℕ, nat_lt, not, IsTrue, IsErrAnd, IfErr, Result, Ok, Err}
use Rattle.ledger_model.specs.declared.fault.ApplyFault.{ApplyFault}
use Rattle.ledger_model.specs.declared.fault.ApplyFault.TheVariants as fault
use Rattle.std.proofs.Math.Bool.{or-false}
use Rattle.std.proofs.lemmas.Bool.{and_parts, ltb-true}
use Rattle.std.proofs.lemmas.List.{length-map}
use Rattle.ledger_model.specs.Limits.{last_round, max_history_len}
use Rattle.ledger_model.specs.declared.event.Event.{Event}
use Rattle.ledger_model.specs.declared.event.Event.TheVariants as event
use Rattle.ledger_model.specs.declared.history.Entry.{Entry}
use Rattle.ledger_model.specs.Logs.{is_mute}
use Rattle.ledger_model.specs.Applications.{run}
use Rattle.ledger_model.specs.declared.reply.Reply.{Reply}
use Rattle.ledger_model.specs.Lawful.{Lawful, Replay, clock_at, is_signed_reply}
use Rattle.ledger_model.proofs.Steps.{replays_snoc}
use Rattle.key_ring.specs.Signers.{SignerView, leaves_of}
use Rattle.replica_core.specs.Replays.{ReplayView, MatchesHistory}
use Rattle.replica_core.specs.Leaves.{signed_count, signed_by, due_by, LeafAccount}
use Rattle.replica_core.specs.Cores.{CoreView as Core, IsSameReplica, due_then, is_mute_next, is_mute_then, leaves_due}
use Rattle.replica_core.specs.Steps.{IsStep, UsesLeaves}
use Rattle.replica_core.specs.LeafOrder.{SignsOnce}
use Rattle.replica_core.proofs.SpentLeaves.{signed_more, uses_signed, account_more, account_still}
use Rattle.replica_core.proofs.LeafOrder.{once_more, once_still}
use Rattle.locked_replica.specs.declared.stored_entry.StoredEntry.{StoredEntry}
use Rattle.locked_replica.specs.Strings.{Extends, with_strings, strings_at}
use Rattle.locked_replica.specs.StoredEntries.{entry_of, entries_of, AreStored, IsTakenAs, LeavesCore}
use Rattle.locked_replica.specs.Applying.{AppliesEvent, RefusesEvent, IsSound}
use Rattle.locked_replica.specs.States.{StateView, IsReplica, RunsAlone, replica_of, due_next, lacks_leaves, is_mute_after, signs_at, UsesAsSigned}
use Rattle.locked_replica.proofs.StoredEntries.{entries_more, stored_more}

-- the history with the entry is a replay
pub replay_on : (meaning : Meanings) (old new : ReplayView) (before after : List Entry) (e : Entry)
    → Replay meaning old.config old.ring old.id before
    → MatchesHistory meaning old before → IsStep meaning old e.event e.reply new
    → after ≡ before ++ e ∷ [] → Replay meaning old.config old.ring old.id after
unfolding Replay
replay_on meaning old new before after e replay was step is =
    let facts = step before was in
    subst (Replay meaning old.config old.ring old.id) (sym is)
    (replays_snoc meaning old.config old.ring old.id [] before e replay (facts.0) (facts.1))

-- and what is kept then matches it
pub matches_on : (meaning : Meanings) (old new : ReplayView) (before after : List Entry) (e : Entry) → MatchesHistory meaning old before
    → IsStep meaning old e.event e.reply new → after ≡ before ++ e ∷ [] → MatchesHistory meaning new after
matches_on meaning old new before after e was step is = subst (MatchesHistory meaning new) (sym is) ((step before was).2)

-- one entry more is no more than there may be
pub few_on : (before after : List Entry) (e : Entry) → length before < max_history_len → after ≡ before ++ e ∷ []
    → length after ≤ max_history_len
few_on before after e few is =
    subst (λ (es : List Entry). length es ≤ max_history_len) (sym is) (omega (arith, few, length-append before (e ∷ [])))

-- a replay of the same replica
pub replay_still : (meaning : Meanings) (old new : ReplayView) (entries : List Entry) → new.config ≡ old.config → new.ring ≡ old.ring
    → new.id ≡ old.id
    → Replay meaning old.config old.ring old.id entries → Replay meaning new.config new.ring new.id entries
replay_still meaning old new entries config ring id replay = rw (config, ring, id) replay

-- ---- leaves

-- by what is kept and by the history as many statements are due
abbrev pub IsDueBy : Core → List Entry → Type 0
IsDueBy core entries = due_then core ≡ due_by core.replay.config core.replay.id entries

mute_or : (now was lacks : Bool) → cond now (was || lacks) was ≡ (was || now && lacks)
mute_or true was lacks = refl
mute_or false was lacks = sym (or-false was)

-- muteness by what is kept is that by the history
mute_by : (meaning : Meanings) (core : Core) (entries : List Entry) (e : Event) → MatchesHistory meaning core.replay entries
    → IsDueBy core entries
    → is_mute_then core e ≡ is_mute_after (replica_of core.replay core.keys entries) e
mute_by meaning core entries event.RoundEnd matches due =
    ap (λ n. cond (nat_lt core.replay.clock last_round) (core.replay.mute || nat_lt (leaves_of core.keys.secret) (core.keys.used + n))
    core.replay.mute) due
    ∙ mute_or (nat_lt core.replay.clock last_round) core.replay.mute
    (nat_lt (leaves_of core.keys.secret) (core.keys.used + due_by core.replay.config core.replay.id entries))
    ∙ ap (λ b. b || nat_lt core.replay.clock last_round
    && nat_lt (leaves_of core.keys.secret) (core.keys.used + due_by core.replay.config core.replay.id entries)) (sym matches.mute)
    ∙ ap (λ n. is_mute entries || nat_lt n last_round
    && nat_lt (leaves_of core.keys.secret) (core.keys.used + due_by core.replay.config core.replay.id entries)) (sym matches.clock)
mute_by meaning core entries (event.Submit bytes) matches due = sym matches.mute ∙ sym (or-false (is_mute entries))
mute_by meaning core entries (event.Propose h) matches due = sym matches.mute ∙ sym (or-false (is_mute entries))
mute_by meaning core entries (event.Deliver bytes) matches due = sym matches.mute ∙ sym (or-false (is_mute entries))
mute_by meaning core entries event.Execute matches due = sym matches.mute ∙ sym (or-false (is_mute entries))
mute_by meaning core entries (event.Query key height) matches due = sym matches.mute ∙ sym (or-false (is_mute entries))
mute_by meaning core entries (event.Retire floor) matches due = sym matches.mute ∙ sym (or-false (is_mute entries))

-- where too few leaves are left, they are fewer than are due
lacks_few : (r : StateView) (e : Event) → lacks_leaves r e ≡ true → leaves_of r.secret < r.used + due_next r
lacks_few r event.RoundEnd lacks =
    ltb-true (leaves_of r.secret) (r.used + due_next r)
    (and_parts (nat_lt (clock_at r.entries) last_round) (nat_lt (leaves_of r.secret) (r.used + due_next r)) lacks).1
lacks_few r (event.Submit bytes) lacks = cc
lacks_few r (event.Propose h) lacks = cc
lacks_few r (event.Deliver bytes) lacks = cc
lacks_few r event.Execute lacks = cc
lacks_few r (event.Query key height) lacks = cc
lacks_few r (event.Retire floor) lacks = cc

-- what a step does
pub record IsTaken (meaning : Meanings) (old new : Core) (before after : List Entry) (e : Entry) : Type 0 where
  pub matches : MatchesHistory meaning old.replay before
  pub due : IsDueBy old before
  pub step : IsStep meaning old.replay e.event e.reply new.replay
  pub leaves : UsesLeaves old.keys old.replay.clock e.reply new.keys
  pub mute : new.replay.mute ≡ is_mute_then old e.event
  pub same : IsSameReplica old new
  pub grown : after ≡ before ++ e ∷ []

pub taken_by : (meaning : Meanings) (old new : Core) (before after : List Entry) (e : Entry) → MatchesHistory meaning old.replay before
    → ((entries : List Entry) → MatchesHistory meaning old.replay entries → IsDueBy old entries)
    → IsStep meaning old.replay e.event e.reply new.replay → UsesLeaves old.keys old.replay.clock e.reply new.keys
    → new.replay.mute ≡ is_mute_then old e.event → IsSameReplica old new
    → after ≡ before ++ e ∷ [] → IsTaken meaning old new before after e
taken_by meaning old new before after e matches due step leaves mute same grown =
    record { matches = matches; due = due before matches; step = step; leaves = leaves; mute = mute; same = same; grown = grown }

module _ (meaning : Meanings) (old new : Core) (before after : List Entry) (e : Entry)
    (taken : IsTaken meaning old new before after e) where
  -- it is mute where it was, or where too few leaves were left
  pub mute_on : is_mute after ≡ is_mute_after (replica_of old.replay old.keys before) e.event
  mute_on = (matches_on meaning old.replay new.replay before after e taken.matches taken.step taken.grown).mute ∙ taken.mute
      ∙ mute_by meaning old before e.event taken.matches taken.due

  -- each statement that is sent uses a leaf
  used_on : new.keys.used ≡ old.keys.used + signed_count (clock_at before + 1) e.reply
  used_on = uses_signed old.keys new.keys old.replay.clock e.reply taken.leaves
      ∙ ap (λ n. old.keys.used + signed_count (n + 1) e.reply) (sym taken.matches.clock)

  pub signed_on : UsesAsSigned (replica_of old.replay old.keys before) (replica_of new.replay new.keys after)
  signed_on =
      let used = used_on in
      let signed = ap signed_by taken.grown ∙ signed_more before e in
      omega (arith, used, signed)

  -- and the leaves are accounted for
  pub account_on : LeafAccount old.replay.config old.replay.id (leaves_of old.keys.secret) old.keys.used before
      → LeafAccount new.replay.config new.replay.id (leaves_of new.keys.secret) new.keys.used after
  account_on was =
      rw (taken.same.config, taken.same.id, taken.same.secret)
      (subst (LeafAccount old.replay.config old.replay.id (leaves_of old.keys.secret) new.keys.used) (sym taken.grown)
      (account_more old.replay.config old.replay.id (leaves_of old.keys.secret) (lacks_leaves (replica_of old.replay old.keys before) e.event)
      old.keys.used new.keys.used before e was
      used_on (sym (ap is_mute taken.grown) ∙ mute_on) (lacks_few (replica_of old.replay old.keys before) e.event)))

  -- and none signs twice
  pub once_on : SignsOnce old.keys.secret old.keys.used before → SignsOnce new.keys.secret new.keys.used after
  once_on was =
      rw (taken.same.secret, taken.grown)
      (once_more old.keys new.keys before e (subst (λ clock. UsesLeaves old.keys clock e.reply new.keys) (sym taken.matches.clock) taken.leaves)
      was)

-- after a fault all is as before, but leaves may be used
pub left_replica : (meaning : Meanings) (old new : Core) (entries : List Entry) → IsReplica meaning old.replay old.keys entries
    → new.replay ≡ old.replay
    → IsSameReplica old new → old.keys.used ≤ new.keys.used
    → IsReplica meaning new.replay new.keys entries
left_replica meaning old new entries was held same least = record {
  few = was.few;
  replay = subst (λ (h : ReplayView). Replay meaning h.config h.ring h.id entries) (sym held) was.replay;
  matches = subst (λ (h : ReplayView). MatchesHistory meaning h entries) (sym held) was.matches;
  account =
      rw (same.config, same.id, same.secret)
      (account_still old.replay.config old.replay.id (leaves_of old.keys.secret) old.keys.used new.keys.used entries least was.account);
  once = rw same.secret (once_still old.keys.secret old.keys.used new.keys.used entries least was.once);
}

-- ---- entries that are stored with their strings in a table

-- a replica with this table and these entries
abbrev pub IsStoredReplica : Meanings → Core → List (List ℕ) → List StoredEntry → Type 0
IsStoredReplica meaning core strings entries = IsReplica meaning core.replay core.keys (entries_of strings entries)
    × AreStored strings entries

-- a core took an event, and the entry is stored as the last one
pub record IsStoredStep (meaning : Meanings) (old new : Core) (before after : List (List ℕ)) (event : Event)
    (entries news : List StoredEntry)
    (stored : StoredEntry)
    : Type 0 where
  pub was : IsStoredReplica meaning old before entries
  pub few : length (entries_of before entries) < max_history_len
  pub told : IsTakenAs meaning old new before after event stored
  pub left : LeavesCore old new event
  pub kept : Extends before after
  pub due : (es : List Entry) → MatchesHistory meaning old.replay es → IsDueBy old es
  pub grown : news ≡ entries ++ stored ∷ []

pub applied_by : (meaning : Meanings) → {old new : Core} {before after : List (List ℕ)} {event : Event}
    {entries reserved news : List StoredEntry}
    {stored : StoredEntry}
    → IsTakenAs meaning old new before after event stored → LeavesCore old new event → Extends before after
    → IsReplica meaning old.replay old.keys (entries_of before entries) × AreStored before entries → length entries < max_history_len
    → ((es : List Entry) → MatchesHistory meaning old.replay es → IsDueBy old es) → reserved ≡ entries → news ≡ reserved ++ stored ∷ []
    → IsStoredStep meaning old new before after event entries news stored
applied_by meaning {old} {new} {before} {after} {event} {entries} {reserved} {news} {stored} told left kept was few due same grown = record {
  was = was;
  few = omega (arith, length-map entries (entry_of before), few);
  told = told;
  left = left;
  kept = kept;
  due = due;
  grown = grown ∙ ap (λ es. es ++ stored ∷ []) same;
}

module _ (meaning : Meanings) {old new : Core} {before after : List (List ℕ)} {event : Event} {entries news : List StoredEntry}
    {stored : StoredEntry}
    (facts : IsStoredStep meaning old new before after event entries news stored) where
  -- the history has the entry
  pub longer : entries_of after news ≡ entries_of before entries ++ entry_of after stored ∷ []
  longer = ap (entries_of after) facts.grown ∙ entries_more before after facts.kept entries stored facts.was.1.within

  step_on : IsStep meaning old.replay (entry_of after stored).event (entry_of after stored).reply new.replay
  step_on = subst (λ (e : Event). IsStep meaning old.replay e (entry_of after stored).reply new.replay)
      (sym facts.told.event_is) facts.told.step

  taken_on : IsTaken meaning old new (entries_of before entries) (entries_of after news) (entry_of after stored)
  taken_on = taken_by meaning old new (entries_of before entries) (entries_of after news)
      (entry_of after stored) facts.was.0.matches facts.due
      step_on facts.told.leaves (subst (λ (e : Event). new.replay.mute ≡ is_mute_then old e) (sym facts.told.event_is) facts.told.mute)
      facts.left.same longer

  -- it is a replica again
  pub still_replica : IsReplica meaning new.replay new.keys (entries_of after news)
  still_replica = record {
    few = few_on (entries_of before entries) (entries_of after news) (entry_of after stored) facts.few longer;
    replay = replay_still meaning old.replay new.replay (entries_of after news) facts.left.same.config facts.left.same.ring
        facts.left.same.id
        (replay_on meaning old.replay new.replay (entries_of before entries) (entries_of after news)
        (entry_of after stored) facts.was.0.replay
        facts.was.0.matches step_on longer);
    matches = matches_on meaning old.replay new.replay (entries_of before entries) (entries_of after news)
        (entry_of after stored) facts.was.0.matches
        step_on longer;
    account = account_on meaning old new (entries_of before entries) (entries_of after news)
        (entry_of after stored) taken_on facts.was.0.account;
    once = once_on meaning old new (entries_of before entries) (entries_of after news) (entry_of after stored) taken_on facts.was.0.once;
  }

  -- and its table has each string of the longer history
  pub still_stored : AreStored after news
  still_stored = subst (AreStored after) (sym facts.grown)
      (stored_more before after facts.kept entries stored facts.was.1 facts.told.within
      (facts.told.strings ∙ ap (λ (e : Event). with_strings before (strings_at e (entry_of after stored).reply)) (sym facts.told.event_is)))

  -- what was added
  pub added_on : (reply : Reply)
      × ((entries_of after news ≡ entries_of before entries ++ record { event = event; reply = reply } ∷ [])
      × Lawful meaning old.replay.config old.replay.ring old.replay.id (entries_of before entries) event reply
      × IsTrue (is_signed_reply old.replay.ring reply)
      × UsesLeaves old.keys (clock_at (entries_of before entries)) reply new.keys)
  added_on =
      let r = (entry_of after stored).reply in
      let facts_of = facts.told.step (entries_of before entries) facts.was.0.matches in (
        r,
        (
          longer ∙ ap (λ (e : Event). entries_of before entries ++ record { event = e; reply = r } ∷ []) facts.told.event_is,
          facts_of.0,
          facts_of.1,
          subst (λ clock. UsesLeaves old.keys clock r new.keys) (sym facts.was.0.matches.clock) facts.told.leaves,
        ),
      )

  -- whether it is mute
  pub still_mute : is_mute (entries_of after news) ≡ is_mute_after (replica_of old.replay old.keys (entries_of before entries)) event
  still_mute = mute_on meaning old new (entries_of before entries) (entries_of after news) (entry_of after stored) taken_on
      ∙ ap (is_mute_after (replica_of old.replay old.keys (entries_of before entries))) facts.told.event_is

  pub still_signed : UsesAsSigned (replica_of old.replay old.keys (entries_of before entries))
      (replica_of new.replay new.keys (entries_of after news))
  still_signed = signed_on meaning old new (entries_of before entries) (entries_of after news) (entry_of after stored) taken_on

-- where memory ran out, all is as before, but leaves may be used
pub left_stored : (meaning : Meanings) (old new : Core) (before after : List (List ℕ)) (event : Event) (entries news : List StoredEntry)
    → IsStoredReplica meaning old before entries → new ≡ record old { keys = new.keys } → LeavesCore old new event → after ≡ before
    → news ≡ entries
    → IsStoredReplica meaning new after news
left_stored meaning old new before after event entries news was err left strings same =
    let still : IsStoredReplica meaning new before entries =
    (left_replica meaning old new (entries_of before entries) was.0 (ap (λ (r : Core). r.replay) err) left.same left.least, was.1) in
    subst (IsStoredReplica meaning new after) (sym same) (subst (λ t. IsStoredReplica meaning new t entries) (sym strings) still)

-- the application runs alone
pub runs_alone : (meaning : Meanings) (held : ReplayView) (keys : SignerView) (entries : List Entry) → IsReplica meaning held keys entries
    → RunsAlone meaning (replica_of held keys entries)
unfolding RunsAlone
runs_alone meaning held keys entries is = is.matches.machine ∙ ap (run meaning held.config.kind) (sym is.matches.commits)

-- so a replica is sound
pub sound : (meaning : Meanings) (held : ReplayView) (keys : SignerView) (entries : List Entry) → IsReplica meaning held keys entries
    → IsSound meaning (replica_of held keys entries)
sound meaning held keys entries is = record {
  replay = is.replay;
  machine = runs_alone meaning held keys entries is;
  account = is.account;
  once = is.once;
}

-- what the event did
pub applies : (meaning : Meanings) → {old new : Core} {before after : List (List ℕ)} {event : Event} {entries news : List StoredEntry}
    {stored : StoredEntry}
    → IsStoredStep meaning old new before after event entries news stored
    → AppliesEvent meaning (replica_of old.replay old.keys (entries_of before entries)) event
    (replica_of new.replay new.keys (entries_of after news))
applies meaning facts = record {
  room = facts.few;
  reply = (added_on meaning facts).0;
  added = (added_on meaning facts).1.0;
  lawful = (added_on meaning facts).1.1;
  signed = (added_on meaning facts).1.2;
  leaves = (added_on meaning facts).1.3;
  used = still_signed meaning facts;
  least = facts.left.least;
  mute = still_mute meaning facts;
  rest = rw (facts.left.same.config, facts.left.same.id, facts.left.same.ring, facts.left.same.secret) refl;
}

-- ---- a refused event

-- what is kept makes no more leaves due than the history does, and none where nothing is signed
due_by_history : (meaning : Meanings) (core : Core) (entries : List Entry) (e : Event) → MatchesHistory meaning core.replay entries
    → IsDueBy core entries
    → (leaves_due core e ≤ due_next (replica_of core.replay core.keys entries))
    × (signs_at (replica_of core.replay core.keys entries) e ≡ false → leaves_due core e ≡ 0)
due_by_history meaning core entries event.RoundEnd matches due = by_round (nat_lt core.replay.clock last_round)
    (is_mute_next core) refl refl
  where
    r : StateView
    r = replica_of core.replay core.keys entries

    by_round : (early mute : Bool) → nat_lt core.replay.clock last_round ≡ early → is_mute_next core ≡ mute
        → (leaves_due core event.RoundEnd ≤ due_next r) × (signs_at r event.RoundEnd ≡ false → leaves_due core event.RoundEnd ≡ 0)
    by_round false mute is says = rw is (omega arith, λ quiet. refl)
    by_round true true is says = rw (is, says) (omega arith, λ quiet. refl)
    by_round true false is says =
        let same : is_mute_after r event.RoundEnd ≡ false = sym (mute_by meaning core entries event.RoundEnd matches due) ∙ rw is says in
        let clock : clock_at entries ≡ core.replay.clock = matches.clock in
        rw (is, says) (
          omega (arith, due),
          λ quiet.
              let signs : (true && not false) ≡ false = rw (same, clock, is) at quiet in
              absurd cc,
        )
due_by_history meaning core entries (event.Submit bytes) matches due = (omega arith, λ quiet. refl)
due_by_history meaning core entries (event.Propose h) matches due = (omega arith, λ quiet. refl)
due_by_history meaning core entries (event.Deliver bytes) matches due = (omega arith, λ quiet. refl)
due_by_history meaning core entries event.Execute matches due = (omega arith, λ quiet. refl)
due_by_history meaning core entries (event.Query key height) matches due = (omega arith, λ quiet. refl)
due_by_history meaning core entries (event.Retire floor) matches due = (omega arith, λ quiet. refl)

-- where memory ran out the event is refused: all is as before, but leaves may be used
pub refuses_event : (meaning : Meanings) (old new : Core) (before after : List (List ℕ)) (event : Event) (entries news : List StoredEntry)
    → IsStoredReplica meaning old before entries → length (entries_of before entries) < max_history_len
    → ((es : List Entry) → MatchesHistory meaning old.replay es → IsDueBy old es)
    → new ≡ record old { keys = new.keys } → LeavesCore old new event → after ≡ before → news ≡ entries
    → RefusesEvent (replica_of old.replay old.keys (entries_of before entries)) event fault.NoMemory
    (replica_of new.replay new.keys (entries_of after news))
refuses_event meaning old new before after event entries news was few due err left strings same =
    let r = replica_of old.replay old.keys (entries_of before entries) in
    let n = replica_of new.replay new.keys (entries_of after news) in
    let due_by = due_by_history meaning old (entries_of before entries) event was.0.matches
    (due (entries_of before entries) was.0.matches) in
    let held : new.replay ≡ old.replay = ap (λ (k : Core). k.replay) err in
    let es : entries_of after news ≡ entries_of before entries =
    ap (λ t. entries_of t news) strings ∙ ap (entries_of before) same in
    let most : new.keys.used ≤ old.keys.used + leaves_due old event = left.most in
    let least : old.keys.used ≤ new.keys.used = left.least in
    let rest : n ≡ record r { used = new.keys.used } = rw (held, es, left.same.secret) refl in
    record {
      full = ((λ e. absurd cc), (λ many. absurd (omega (arith, few, many))));
      stays = λ e. absurd cc;
      spared = λ quiet.
          let none = due_by.1 quiet in
          let used : new.keys.used ≡ old.keys.used = omega (arith, most, least, none) in
          rest ∙ ap (λ (k : ℕ). record r { used = k }) used;
      least = least;
      most = (let within = due_by.0 in omega (arith, most, within));
      rest = rest;
    }

-- the fault that `?` makes of a refused allocation
pub refused_memory : (result : Result ℕ ApplyFault) (P : ApplyFault → Type 0) → IsErrAnd result (λ why. why ≡ fault.NoMemory) → P fault.NoMemory
    → IfErr result P
refused_memory (Ok index) P is p = tt
refused_memory (Err why) P is p = subst P (sym is) p
