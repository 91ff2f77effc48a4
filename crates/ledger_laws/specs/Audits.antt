-- An audit catches every fork, and histories can pass it. The examples have a cluster of four, of which replicas 0, 1 and 2
-- hand in their histories.
use Rattle.ledger_model.specs.Meanings.{Meanings}
use Rattle.ledger_model.specs.Kinds.{meaning_of}
use Rattle.std.specs.Prelude.{◌≡◌, ℕ, true, List, [], ◌∷◌, Some, slice_get}
use Rattle.ledger_model.specs.declared.config.Config.{Config}
use Rattle.ledger_model.specs.declared.config.AppKind.TheVariants.{KvStore}
use Rattle.ledger_model.specs.declared.history.Entry.{Entry}
use Rattle.ledger_model.specs.declared.history.History.{History}
use Rattle.ledger_model.specs.Values.{Value}
use Rattle.ledger_model.specs.Rules.{Ring}
use Rattle.ledger_model.specs.Commits.{commits_of}
use Rattle.ledger_model.specs.Groups.{history_of}
use Rattle.ledger_model.specs.Audits.{are_of_a_quorum, AreReplays, unsent_in, IsUnsent, IsFirstUnsent, NothingUnsent}
use Rattle.ledger_laws.specs.Examples.{four, a, signed_report, quiet_end, round_entries}
use Rattle.ledger_laws.specs.Vacuity.{proposes, send_entry, accept_entry, lock_on, three, forked}

-- some entry of some history accepts a statement that its signer's history doesn't send
abbrev pub SomeUnsent : List History → Type 0
SomeUnsent histories = (reader : ℕ) × (i : ℕ) × (signer : ℕ) × IsUnsent histories reader i signer

-- if two of the audited replays committed different batches at one height, some accepted statement is unsent
abbrev pub ForkIsCaught : Type 0
ForkIsCaught =
    (meaning : Meanings) (config : Config) (ring : Ring) (histories : List History) (r q i : ℕ) (m n : History) (v w : Value)
    → are_of_a_quorum config histories ≡ true → AreReplays meaning config ring histories
    → history_of histories r ≡ Some m → history_of histories q ≡ Some n
    → slice_get (commits_of config r m.entries) i ≡ Some v → slice_get (commits_of config q n.entries) i ≡ Some w → (v ≡ w → ⊥)
    → SomeUnsent histories

-- ---- a fork

-- Replica 1 committed [a=1] and replica 2 [b=1] at height 1. The first unsent statement is replica 0's acknowledgement,
-- which entry 4 of replica 1 accepts. Entry 5 accepts one of replica 2, which replica 2 didn't send either.
abbrev pub CaughtForkExample : Type 0
CaughtForkExample =
    (are_of_a_quorum (four KvStore) forked ≡ true)
    × IsFirstUnsent forked 1 4 0
    × IsUnsent forked 1 5 2

-- ---- histories that pass

-- replica 0 ignores four frames in round 1, and the others only open a round or two
abbrev pub quiet_histories : List History
quiet_histories = three round_entries (quiet_end ∷ []) (quiet_end ∷ quiet_end ∷ [])

-- these histories are enough, each is a replay, and they accept nothing that is unsent
abbrev pub QuietHistoriesPass : Type 0
QuietHistoriesPass =
    (are_of_a_quorum (four KvStore) quiet_histories ≡ true)
    × AreReplays meaning_of (four KvStore) [] quiet_histories
    × NothingUnsent quiet_histories

-- replicas 1 and 2 accept the report of replica 0, whose round 1 opens with this entry
abbrev pub with_report : Entry → List History
with_report opening = three (proposes a ∷ opening ∷ []) (accept_entry signed_report ∷ []) (accept_entry signed_report ∷ [])

-- nothing is unsent if replica 0 sends its report; otherwise the report is unsent at both readers
abbrev pub ReportExample : Type 0
ReportExample =
    NothingUnsent (with_report (send_entry signed_report))
    × IsUnsent (with_report quiet_end) 1 0 0
    × IsUnsent (with_report quiet_end) 2 0 0

-- replica 1 proposed [a=1] and then had these round ends, and replica 2 accepts its lock
abbrev pub lock_histories : List Entry → List History
lock_histories ends = three [] (proposes a ∷ ends) (accept_entry (lock_on a) ∷ [])

-- Replica 1 sends the lock as its own in round 2, but not in round 4, in which replicas only send held locks on. The
-- reports of replicas 0, 1 and 2 in the lock's proof are unsent in both cases.
abbrev pub LockExample : Type 0
LockExample =
    (unsent_in (lock_histories (quiet_end ∷ send_entry (lock_on a) ∷ [])) (accept_entry (lock_on a)) ≡ 0 ∷ 1 ∷ 2 ∷ [])
    × (unsent_in (lock_histories (quiet_end ∷ quiet_end ∷ quiet_end ∷ send_entry (lock_on a) ∷ [])) (accept_entry (lock_on a)) ≡ 1 ∷ 0 ∷ 1 ∷ 2 ∷ [])
