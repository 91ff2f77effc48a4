-- The accessors of a running cluster: its applications, and their replies.
use Rattle.ledger_model.specs.Meanings.{Meanings}
use Rattle.std.proofs.Common.{◌≡◌, ℕ, List, [], length, take, refl, sym, ap, subst, ◌∙◌}
use Rattle.std.specs.Prelude.{Option, Some, None, slice_get, option_map}
use Rattle.std.proofs.Math.Seq.{take-length}
use Rattle.ledger_model.specs.declared.config.Config.{Config}
use Rattle.ledger_model.specs.declared.history.Entry.{Entry}
use Rattle.ledger_model.specs.declared.history.History.{History}
use Rattle.ledger_model.specs.Applications.{run}
use Rattle.ledger_model.specs.Commits.{commits_of}
use Rattle.ledger_model.specs.Groups.{history_of}
use Rattle.ledger_model.specs.Lawful.{Replay, Follows}
use Rattle.ledger_model.specs.Rules.{Ring}
use Rattle.ledger_model.specs.Worlds.{entries_in, IsReplyOn, OwnMachines}
use Rattle.ledger_model.proofs.Steps.{replays_follow}
use Rattle.ledger_laws.proofs.Ledgers.{entry_at, reply_on}
use Rattle.locked_replica.specs.States.{StateView}
use Rattle.replica_core.specs.Facts.{info_reply}
use Rattle.adversary_net.specs.WorldViews.{WorldView, IsCluster, IsMemberAt, OwnReplies, state_at, machine_in, history_in, world_of}
use Rattle.adversary_net.proofs.Asking.{its_history}

-- a correct replica, by its history
record Correct (meaning : Meanings) (c : WorldView) (r : ℕ) (m : History) : Type 0 where
  state : StateView
  there : state_at c r ≡ Some state
  entries : state.entries ≡ m.entries
  member : IsMemberAt meaning c r state

by_history : (o : Option StateView) (m : History) → option_map history_in o ≡ Some m
    → (s : StateView) × (o ≡ Some s) × (s.entries ≡ m.entries)
by_history None m is = cc
by_history (Some s) m is = (s, refl, entries_are (history_in s) m is)
  where
    entries_are : (h m : History) → Some h ≡ Some m → h.entries ≡ m.entries
    entries_are h m e = cc

correct : (meaning : Meanings) (c : WorldView) (r : ℕ) (m : History) → IsCluster meaning c → history_of (world_of c).histories r ≡ Some m
    → Correct meaning c r m
correct meaning c r m cluster is =
    let own = by_history (state_at c r) m (sym (its_history meaning c r cluster) ∙ is) in
    record { state = own.0; there = own.1; entries = own.2; member = cluster.members r own.0 own.1 }

pub own_machines : (meaning : Meanings) (c : WorldView) → IsCluster meaning c
    → OwnMachines meaning c.config (world_of c).histories (machine_in meaning c)
own_machines meaning c cluster r m is =
    let own = correct meaning c r m cluster is in
    let machine : machine_in meaning c r ≡ own.state.machine = simp own.there in
    machine ∙ own.member.machine ∙ ap (λ es. run meaning c.config.kind (commits_of c.config r es)) own.entries

reply_is : (meaning : Meanings) (config : Config) (ring : Ring) (r : ℕ) (entries : List Entry) → Follows meaning config ring r entries
    → (i : ℕ) (e : Entry)
    → slice_get entries i ≡ Some e
    → IsReplyOn meaning config (commits_of config r entries) (length (commits_of config r (take i entries))) e.event e.reply
reply_is meaning config ring r entries follows i e at =
    reply_on meaning config ring r entries follows (commits_of config r entries)
    (take-length (commits_of config r entries)) i e.event e.reply
    (entry_at meaning config ring r entries follows i e at)

pub own_replies : (meaning : Meanings) (c : WorldView) → IsCluster meaning c → OwnReplies meaning c.config (world_of c).histories
unfolding Replay Follows
own_replies meaning c cluster r i m e is at =
    let own = correct meaning c r m cluster is in
    let replay : Replay meaning c.config c.ring r m.entries = subst (Replay meaning c.config c.ring r) own.entries own.member.replay in
    reply_is meaning c.config c.ring r m.entries (replays_follow meaning c.config c.ring r [] m.entries replay) i e at

-- what the application of a correct replica answers
pub info_at : (meaning : Meanings) (c : WorldView) (r : ℕ) (s t : StateView) → IsMemberAt meaning c r s
    → entries_in (world_of c) r ≡ s.entries → t ≡ s
    → info_reply meaning t.config.kind (commits_of t.config t.id t.entries)
    ≡ info_reply meaning c.config.kind (commits_of c.config r (entries_in (world_of c) r))
info_at meaning c r s t member entries same =
    ap (λ (x : StateView). info_reply meaning x.config.kind (commits_of x.config x.id x.entries)) same
    ∙ ap (λ (k : Config). info_reply meaning k.kind (commits_of k s.id s.entries)) member.config
    ∙ ap (λ i. info_reply meaning c.config.kind (commits_of c.config i s.entries)) member.id
    ∙ ap (λ es. info_reply meaning c.config.kind (commits_of c.config r es)) (sym entries)
