-- Events that touch no height: a transaction is submitted, and the application is queried.
use Rattle.ledger_model.specs.Meanings.{Meanings}
use Rattle.std.proofs.Common.{◌≡◌, ℕ, List, refl, sym, ap, ◌∙◌}
use Rattle.std.specs.Prelude.{Result, Ok, Err}
use Rattle.ledger_model.specs.declared.event.Event.TheVariants as event
use Rattle.ledger_model.specs.declared.reply.Reply.TheVariants as reply
use Rattle.ledger_model.specs.declared.reply.SubmitRefusal.{SubmitRefusal}
use Rattle.ledger_model.specs.declared.reply.QueryAnswer.{QueryAnswer}
use Rattle.ledger_model.specs.declared.reply.NotHeld.{NotHeld}
use Rattle.ledger_model.specs.Logs.{notes_of}
use Rattle.ledger_model.specs.Pools.{submit_answer}
use Rattle.ledger_model.specs.Commits.{pool_of, pool_step, submit_reply}
use Rattle.ledger_model.specs.Replies.{check_reply, query_reply}
use Rattle.replica_core.specs.Replays.{ReplayView}
use Rattle.replica_core.specs.Steps.{IsStep, submit_held, pool_with}
use Rattle.replica_core.proofs.Quiet.{unheard}

-- a transaction that is handed in
pub submits : (meaning : Meanings) (held : ReplayView) (tx : List ℕ) (answer : Result (Unit {0}) SubmitRefusal)
    → answer ≡ submit_held meaning held tx
    → IsStep meaning held (event.Submit tx) (reply.Submitted answer) (record held { pool = pool_with held.pool tx answer })
unfolding submit_reply notes_of
submits meaning held tx answer is entries matches = (
  is ∙ ap (λ p. submit_answer p tx (check_reply meaning held.config.kind held.commits tx)) (sym matches.pool)
      ∙ ap (λ vs. submit_answer (pool_of meaning held.config held.id entries) tx (check_reply meaning held.config.kind vs tx))
      (sym matches.commits),
  refl,
  unheard meaning held entries (record { event = event.Submit tx; reply = reply.Submitted answer }) matches refl refl refl (λ floor. refl)
      (pool_with held.pool tx answer) (shown answer) (λ h. refl),
)
  where
    shown : (a : Result (Unit {0}) SubmitRefusal)
        → pool_step meaning held.config held.commits held.pool (event.Submit tx) (reply.Submitted a) ≡ pool_with held.pool tx a
    shown (Ok u) = refl
    shown (Err f) = refl

-- a query
pub queries : (meaning : Meanings) (held : ReplayView) (key : List ℕ) (height : ℕ) (answer : Result QueryAnswer NotHeld)
    → answer ≡ query_reply meaning held.config.kind held.commits key height
    → IsStep meaning held (event.Query key height) (reply.Queried answer) held
unfolding notes_of
queries meaning held key height answer is entries matches = (
  is ∙ ap (λ vs. query_reply meaning held.config.kind vs key height) (sym matches.commits),
  refl,
  unheard meaning held entries (record { event = event.Query key height; reply = reply.Queried answer }) matches refl refl refl
      (λ floor. refl)
      held.pool refl (λ h. refl),
)
