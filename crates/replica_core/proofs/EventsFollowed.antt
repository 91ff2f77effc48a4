-- Every event but the round end has exactly one lawful reply, with which the given reply is compared.
use Rattle.ledger_model.specs.Meanings.{Meanings}
use Rattle.std.proofs.Common.{◌≡◌, ℕ, Bool, true, List, ◌∷◌, [], ◌++◌, refl, sym, subst}
use Rattle.std.specs.Prelude.{◌↔◌, Some, is_some, Result, IfOk, OnOk, OnErr}
use Rattle.ledger_model.specs.declared.event.Event.TheVariants as event
use Rattle.ledger_model.specs.declared.reply.BlockResult.{BlockResult}
use Rattle.ledger_model.specs.declared.reply.Ignored.{Ignored}
use Rattle.ledger_model.specs.declared.reply.NotHeld.{NotHeld}
use Rattle.ledger_model.specs.declared.reply.NothingDecided.{NothingDecided}
use Rattle.ledger_model.specs.declared.reply.ProposeRefusal.{ProposeRefusal}
use Rattle.ledger_model.specs.declared.reply.QueryAnswer.{QueryAnswer}
use Rattle.ledger_model.specs.declared.reply.Reply.TheVariants as reply
use Rattle.ledger_model.specs.declared.reply.RetireRefusal.{RetireRefusal}
use Rattle.ledger_model.specs.declared.reply.SubmitRefusal.{SubmitRefusal}
use Rattle.ledger_model.specs.Values.{Value}
use Rattle.ledger_model.specs.Notes.{Note, Proposed}
use Rattle.ledger_model.specs.Reading.{reading_in}
use Rattle.ledger_model.specs.Rules.{Ring}
use Rattle.ledger_model.specs.Commits.{commits_of, submit_reply, propose_reply, execute_reply, retire_reply}
use Rattle.ledger_model.specs.Replies.{query_reply}
use Rattle.ledger_model.specs.Lawful.{answer}
use Rattle.instance.specs.Instances.{InstanceView}
use Rattle.instance.specs.Matching.{MatchesLog, only_rounds}
use Rattle.height_row.specs.Heights.{row_at, AreApart}
use Rattle.replica_core.specs.Replays.{ReplayView, IsOneCluster}
use Rattle.replica_core.specs.Steps.{IsStep, submit_held, pool_with, propose_held, execute_held, next_decided, after_execute, retire_held}
use Rattle.replica_core.specs.Steps.{after_retire}
use Rattle.replica_core.specs.Following.{IsFollowed}
use Rattle.replica_core.proofs.Followed.{compared}
use Rattle.replica_core.proofs.Submits.{submits, queries}
use Rattle.replica_core.proofs.Proposes.{proposes}
use Rattle.replica_core.proofs.Executes.{executes}
use Rattle.replica_core.proofs.Retires.{retires}

-- a transaction is handed in
pub submit_followed : (meaning : Meanings) (held new : ReplayView) (tx : List ℕ) (due shown : Result (Unit {0}) SubmitRefusal) (kept : Bool)
    → (kept ≡ true ↔ due ≡ shown) → due ≡ submit_held meaning held tx
    → new ≡ record held { pool = pool_with held.pool tx due } → IsFollowed meaning held (event.Submit tx) (reply.Submitted shown) kept new
submit_followed meaning held new tx due shown kept same is after =
    compared meaning held new (event.Submit tx) (λ r. reply.Submitted r)
    (λ entries. submit_reply meaning held.config held.id entries tx) due shown kept
    same (λ entries r lawful. lawful) (λ r. refl)
    (subst (IsStep meaning held (event.Submit tx) (reply.Submitted due)) (sym after) (submits meaning held tx due is))

-- a height is opened
pub propose_followed : (meaning : Meanings) (held new : ReplayView) (h : ℕ) (due shown : Result Value ProposeRefusal) (kept : Bool)
    → (kept ≡ true ↔ due ≡ shown) → due ≡ propose_held held h
    → new ≡ record held { rows = new.rows } → OnErr due (new ≡ held) → OnOk due (is_some (row_at new.rows h) ≡ true)
    → AreApart h held.rows new.rows
    → IfOk due (λ v. (row : InstanceView) → row_at new.rows h ≡ Some row → (ring : Ring) (log : List Note) → only_rounds log ≡ true
    → MatchesLog ring row (log ++ Proposed v ∷ []))
    → IsFollowed meaning held (event.Propose h) (reply.Proposed shown) kept new
propose_followed meaning held new h due shown kept same is rest refused there apart opened =
    compared meaning held new (event.Propose h) (λ r. reply.Proposed r)
    (λ entries. propose_reply meaning held.config held.id entries h) due shown kept same
    (λ entries r lawful. lawful) (λ r. refl)
    (proposes meaning held new h due is rest refused there apart opened)

-- bytes come
pub deliver_followed : (meaning : Meanings) (held new : ReplayView) (bytes : List ℕ) (due shown : Result (Unit {0}) Ignored) (kept : Bool)
    → (kept ≡ true ↔ due ≡ shown)
    → IsStep meaning held (event.Deliver bytes) (reply.Delivered due) new
    → IsFollowed meaning held (event.Deliver bytes) (reply.Delivered shown) kept new
deliver_followed meaning held new bytes due shown kept same step =
    compared meaning held new (event.Deliver bytes) (λ r. reply.Delivered r)
    (λ entries. answer held.config held.ring held.id entries (reading_in held.config.frames bytes)) due shown kept same
    (λ entries r lawful. lawful) (λ r. refl) step

-- the next block is run
pub execute_followed : (meaning : Meanings) (held new : ReplayView) (due shown : Result BlockResult NothingDecided) (kept : Bool)
    → (kept ≡ true ↔ due ≡ shown) → IsOneCluster held → due ≡ execute_held meaning held
    → new ≡ after_execute meaning held (next_decided held) → IsFollowed meaning held event.Execute (reply.Executed shown) kept new
execute_followed meaning held new due shown kept same one is after =
    compared meaning held new event.Execute (λ r. reply.Executed r)
    (λ entries. execute_reply meaning held.config held.id entries) due shown kept same
    (λ entries r lawful. lawful) (λ r. refl)
    (subst (IsStep meaning held event.Execute (reply.Executed due)) (sym after) (executes meaning held due one is))

-- the application is asked
pub query_followed : (meaning : Meanings) (held : ReplayView) (key : List ℕ) (h : ℕ) (due shown : Result QueryAnswer NotHeld) (kept : Bool)
    → (kept ≡ true ↔ due ≡ shown)
    → due ≡ query_reply meaning held.config.kind held.commits key h
    → IsFollowed meaning held (event.Query key h) (reply.Queried shown) kept held
query_followed meaning held key h due shown kept same is =
    compared meaning held held (event.Query key h) (λ r. reply.Queried r)
    (λ entries. query_reply meaning held.config.kind (commits_of held.config held.id entries) key h) due shown kept same
    (λ entries r lawful. lawful) (λ r. refl) (queries meaning held key h due is)

-- heights are given up
pub retire_followed : (meaning : Meanings) (held new : ReplayView) (floor : ℕ) (due shown : Result ℕ RetireRefusal) (kept : Bool)
    → (kept ≡ true ↔ due ≡ shown) → due ≡ retire_held held floor → new ≡ after_retire held due
    → IsFollowed meaning held (event.Retire floor) (reply.Retired shown) kept new
retire_followed meaning held new floor due shown kept same is after =
    compared meaning held new (event.Retire floor) (λ r. reply.Retired r)
    (λ entries. retire_reply held.config held.id entries floor) due shown kept
    same (λ entries r lawful. lawful) (λ r. refl) (retires meaning held new floor due is after)
