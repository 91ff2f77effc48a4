-- The application, run alone on the committed batches.
use Rattle.ledger_model.specs.Meanings.{Meanings}
use Rattle.std.proofs.Common.{◌≡◌, ℕ, List, [], ◌∷◌, ◌++◌, length, sym, ap, ◌∙◌}
use Rattle.std.specs.Prelude.{Result}
use Rattle.ledger_model.specs.declared.config.AppKind.{AppKind}
use Rattle.ledger_model.specs.declared.reply.BlockResult.{BlockResult}
use Rattle.ledger_model.specs.declared.reply.QueryAnswer.{QueryAnswer}
use Rattle.ledger_model.specs.declared.reply.NotHeld.{NotHeld}
use Rattle.ledger_model.specs.declared.reply.SubmitRefusal.{SubmitRefusal}
use Rattle.ledger_model.specs.Values.{Value}
use Rattle.ledger_model.specs.Applications.{Machine, run, hash_of}
use Rattle.ledger_model.specs.Pools.{submit_answer, left_after}
use Rattle.ledger_model.specs.Replies.{block_reply, check_reply, query_reply}
use Rattle.abci.specs.Meaning.{without_work}
use Rattle.abci.specs.declared.info.Info.{Info}
use Rattle.abci_executor.specs.Blocks.{AddsBlock, IsQueryReply, ShowsBlocks}
use Rattle.batch_pool.specs.Pools.{AnswersSubmission, LeavesWaiting}
use Rattle.replica_core.specs.Facts.{info_reply}

module _ (meaning : Meanings) (m : Machine) (kind : AppKind) (batches : List Value) (is : m ≡ run meaning kind batches) where
  -- it is of the kind
  pub kind_is : m.kind ≡ kind
  unfolding run
  kind_is = ap (λ (x : Machine). x.kind) is

  -- it ran as many blocks
  pub height_is : m.height ≡ length batches
  unfolding run
  height_is = ap (λ (x : Machine). x.height) is

  -- these blocks led to it by its own kind
  pub reached : m ≡ run meaning m.kind batches
  reached = is ∙ ap (λ k. run meaning k batches) (sym kind_is)

  -- what is replied to a key
  pub replied : (key : List ℕ) (height : ℕ) (reply : Result QueryAnswer NotHeld) → IsQueryReply meaning m key height reply
      → reply ≡ query_reply meaning kind batches key height
  replied key height reply shown = shown batches reached ∙ ap (λ k. query_reply meaning k batches key height) kind_is

  -- what is answered to a transaction
  pub answered : (app : Machine) (pool : Value) (tx : List ℕ) (answer : Result (Unit {0}) SubmitRefusal) → without_work app ≡ m
      → AnswersSubmission meaning app pool tx answer
      → answer ≡ submit_answer pool tx (check_reply meaning kind batches tx)
  answered app pool tx answer same shown =
      shown batches (same ∙ reached_by) ∙ ap (λ k. submit_answer pool tx (check_reply meaning k batches tx)) of_kind
    where
      of_kind : app.kind ≡ kind
      of_kind = ap (λ (x : Machine). x.kind) same ∙ kind_is

      reached_by : m ≡ run meaning app.kind batches
      reached_by = is ∙ ap (λ k. run meaning k batches) (sym of_kind)

  -- what a block leaves of the pool
  pub left : (app : Machine) (block old new : Value) → without_work app ≡ m → LeavesWaiting meaning app block old new
      → new ≡ left_after block (check_reply meaning kind batches) old
  left app block old new same shown =
      shown batches (same ∙ is ∙ ap (λ k. run meaning k batches) (sym of_kind))
      ∙ ap (λ k. left_after block (check_reply meaning k batches) old) of_kind
    where
      of_kind : app.kind ≡ kind
      of_kind = ap (λ (x : Machine). x.kind) same ∙ kind_is

  -- what a block answers, and what it leads to
  pub added : (batch : Value) (block : BlockResult) (new : Machine) → AddsBlock meaning m batch block new
      → block ≡ block_reply meaning kind batches batch
  added batch block new adds = (adds batches reached).0 ∙ ap (λ k. block_reply meaning k batches batch) kind_is

  -- and the machine then
  pub led : (batch : Value) (block : BlockResult) (new : Machine) → AddsBlock meaning m batch block new
      → new ≡ run meaning kind (batches ++ batch ∷ [])
  led batch block new adds = (adds batches reached).1 ∙ ap (λ k. run meaning k (batches ++ batch ∷ [])) kind_is

  -- what it answers of itself
  pub shown : (info : Info) → ShowsBlocks meaning m info → info ≡ info_reply meaning kind batches
  shown info shows =
      let height = (shows batches reached).0 in
      let hash : info.hash ≡ hash_of meaning kind batches = (shows batches reached).1 ∙ ap (λ k. hash_of meaning k batches) kind_is in
      λ i. record { height = height i; hash = hash i }
