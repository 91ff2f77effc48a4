-- Runs in which replicas write logs, stop, and go on from what their logs have.
use Rattle.ledger_model.specs.Meanings.{Meanings}
use Rattle.std.specs.Prelude.{◌≡◌, ℕ, zero, suc, ◌==◌, ◌≤◌, IsTrue, List, [], ◌∷◌, ◌++◌, length, map, take, if◌then◌else◌}
use Rattle.ledger_model.specs.declared.config.Config.{Config}
use Rattle.ledger_model.specs.declared.history.History.{History}
use Rattle.ledger_model.specs.Rules.{Ring}
use Rattle.ledger_model.specs.Lawful.{Lawful}
use Rattle.ledger_model.specs.Groups.{is_correct}
use Rattle.ledger_model.specs.Timelines.{Added, entries_at, histories_at, AcceptsUnforged, RunsFrom, AreReplicas, RefinesLedger}

-- A step of such a run. A replica adds an entry to its history; or its log gets more of its history, and has the first `count` entries then; or
-- it stops, and goes on with the first `kept` entries of its history, and with nothing else.
pub data LoggedStep : Type 0 where
  Adds : (a : Added) → LoggedStep
  Logs : (r count : ℕ) → LoggedStep
  Restarts : (r kept : ℕ) → LoggedStep

-- how many entries each log has, once that of replica r has `count`
abbrev pub with_log : (ℕ → ℕ) → ℕ → ℕ → ℕ → ℕ
with_log logged r count x = if x == r then count else logged x

-- what the logs of the correct replicas have of their histories
abbrev pub logs_at : List ℕ → (ℕ → ℕ) → List Added → List History
logs_at correct logged timeline = map (λ r. record { replica = r; entries = take (logged r) (entries_at timeline r) }) correct

-- the timeline without the entries of replica r after its first `kept` ones
unfoldable pub kept_of : ℕ → ℕ → List Added → List Added
kept_of r kept [] = []
kept_of r zero (a ∷ timeline) = (if a.replica == r then [] else a ∷ []) ++ kept_of r zero timeline
kept_of r (suc kept) (a ∷ timeline) = a ∷ kept_of r (if a.replica == r then kept else suc kept) timeline

-- After these steps the entries that the replicas have are this timeline. Each entry was lawful, as it was added at a correct replica, after
-- the entries that this one had then. A log only grows, and has no entry that its replica doesn't have. After a stop a replica has at least
-- what its log has.
unfoldable pub RunsWithRestarts : Meanings → Config → Ring → List ℕ → (ℕ → ℕ) → List Added → List LoggedStep → List Added → Type 0
RunsWithRestarts meaning config ring correct logged now [] timeline = timeline ≡ now
RunsWithRestarts meaning config ring correct logged now (Adds a ∷ steps) timeline =
    IsTrue (is_correct (histories_at correct now) a.replica)
    × Lawful meaning config ring a.replica (entries_at now a.replica) a.entry.event a.entry.reply
    × RunsWithRestarts meaning config ring correct logged (now ++ a ∷ []) steps timeline
RunsWithRestarts meaning config ring correct logged now (Logs r count ∷ steps) timeline =
    (logged r ≤ count) × (count ≤ length (entries_at now r))
    × RunsWithRestarts meaning config ring correct (with_log logged r count) now steps timeline
RunsWithRestarts meaning config ring correct logged now (Restarts r kept ∷ steps) timeline =
    (logged r ≤ kept) × RunsWithRestarts meaning config ring correct logged (kept_of r kept now) steps timeline

-- What a correct replica accepts of a correct one is in that one's log by then. That holds if nothing is forged, and each replica logs an entry
-- before it sends what the entry says. (A replica whose leaves may have signed more than its log has must not use them again: else
-- signatures can be forged.)
unfoldable pub AcceptsLogged : Config → Ring → List ℕ → (ℕ → ℕ) → List Added → List LoggedStep → Type 0
AcceptsLogged config ring correct logged now [] = Unit {0}
AcceptsLogged config ring correct logged now (Adds a ∷ steps) =
    AcceptsUnforged config ring (logs_at correct logged now) a.entry.event a.entry.reply
    × AcceptsLogged config ring correct logged (now ++ a ∷ []) steps
AcceptsLogged config ring correct logged now (Logs r count ∷ steps) = AcceptsLogged config ring correct (with_log logged r count) now steps
AcceptsLogged config ring correct logged now (Restarts r kept ∷ steps) = AcceptsLogged config ring correct logged (kept_of r kept now) steps

-- the empty logs
abbrev pub no_logs : ℕ → ℕ
no_logs r = 0

-- What the replicas have in the end is a run in which none stops. What a client was told of entries that no log had may be missing in it.
abbrev pub RestartsAreInvisible : Type 0
RestartsAreInvisible =
    (meaning : Meanings) (config : Config) (ring : Ring) (correct : List ℕ) (steps : List LoggedStep) (timeline : List Added)
    → RunsWithRestarts meaning config ring correct no_logs [] steps timeline → RunsFrom meaning config ring correct [] timeline

-- if what is accepted was logged before, it is a run of one sequential ledger
abbrev pub RestartsRefine : Type 0
RestartsRefine =
    (meaning : Meanings) (config : Config) (ring : Ring) (correct : List ℕ) (steps : List LoggedStep) (timeline : List Added)
    → AreReplicas config correct → RunsWithRestarts meaning config ring correct no_logs [] steps timeline
    → AcceptsLogged config ring correct no_logs [] steps → RefinesLedger meaning config correct timeline

-- what the logs have at some moment is in the histories in the end, whichever replicas stop meanwhile: so is what a replica tells its clients of
-- logged entries alone
abbrev pub LoggedEntriesStay : Type 0
LoggedEntriesStay =
    (meaning : Meanings) (config : Config) (ring : Ring) (correct : List ℕ) (logged : ℕ → ℕ) (now : List Added) (steps : List LoggedStep)
    (timeline : List Added) → ((x : ℕ) → logged x ≤ length (entries_at now x))
    → RunsWithRestarts meaning config ring correct logged now steps timeline
    → (x : ℕ) → take (logged x) (entries_at timeline x) ≡ take (logged x) (entries_at now x)
