-- How a session answers one request.
use Rattle.std.specs.Prelude.{ℕ, List}
use Rattle.std.specs.List.{FoldsTo}
use Rattle.ledger_model.specs.Sessions.{Exchange, Request, Session, Serves}

-- the request was served by these exchanges with the `count` targets, and the reply has this body
pub record AnswersOneRequest {T : Type 0} (asks : T → Exchange → T → Type 0) (count : ℕ) (before after : T) (old : Session) (request : Request)
    (reply : List ℕ) (new : Session) : Type 0 where
  pub exchanges : List Exchange
  pub asked : FoldsTo asks before exchanges after
  pub serves : Serves count old request exchanges reply new
