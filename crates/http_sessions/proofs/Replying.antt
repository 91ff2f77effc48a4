-- Exchanges with the reply to them, or that memory ran out.
use Rattle.std.proofs.Common.{◌≡◌, ℕ, ◌<◌, List, [], ◌∷◌, ◌++◌, zero, suc, inr, subst, sym, arith}
use Rattle.std.specs.Prelude.{Some, Result, Ok, Err, IfOk, MatchResult}
use Rattle.std.specs.List.{FoldsTo}
use Rattle.http_messages.specs.Answers.{AnswerView}
use Rattle.http_messages.specs.Replies.{http_reply_bytes}
use Rattle.http_sessions.specs.Exchanges.{HttpExchange}
use Rattle.http_sessions.specs.Answering.{RepliesByExchanges, Loses, LosesReply, AnswersQueryAt, AnswersQueryIf}

-- exchanges, and others after them
made_together : {T : Type 0} (makes : T → HttpExchange → T → Type 0) (before mid after : T) (first rest : List HttpExchange)
    → FoldsTo makes before first mid → FoldsTo makes mid rest after → FoldsTo makes before (first ++ rest) after
made_together makes before mid after [] rest made more = subst (λ t. FoldsTo makes t rest after) (sym made) more
made_together makes before mid after (e ∷ first) rest made more =
    (made.0, made.1, made_together makes made.0 mid after first rest made.2 more)

module _ {T V E : Type 0} (makes : T → HttpExchange → T → Type 0) (before after : T) (Gives : List HttpExchange → AnswerView → Type 0)
    (bytes : V → List ℕ) where
  -- the exchanges were made that give this answer, whose reply was made if there was enough memory
  pub replied : (r : Result V E) (exchanges : List HttpExchange) (answer : AnswerView) → FoldsTo makes before exchanges after
      → Gives exchanges answer → IfOk r (λ v. bytes v ≡ http_reply_bytes answer)
      → MatchResult r (λ v. RepliesByExchanges makes before after Gives (bytes v)) (λ _. LosesReply makes before after Gives)
  replied (Ok v) exchanges answer made gives is =
      record { exchanges = exchanges; answer = answer; made = made; gives = gives; bytes = is }
  replied (Err e) exchanges answer made gives is = record { exchanges = exchanges; answer = answer; made = made; gives = gives }

  -- where all was asked, nothing less was
  pub replied_or_lost : (r : Result V E)
      → MatchResult r (λ v. RepliesByExchanges makes before after Gives (bytes v)) (λ _. LosesReply makes before after Gives)
      → MatchResult r (λ v. RepliesByExchanges makes before after Gives (bytes v)) (λ _. Loses makes before after Gives)
  replied_or_lost (Ok v) replies = replies
  replied_or_lost (Err e) loses =
      record { exchanges = loses.exchanges; made = loses.made; whole = inr (loses.answer, loses.gives) }

  -- exchanges that came before these, where both together give an answer to another question
  pub replied_after : (mid : T) (first : List HttpExchange) (Others : List HttpExchange → AnswerView → Type 0) (r : Result V E)
      → FoldsTo makes before first mid
      → ((rest : List HttpExchange) (answer : AnswerView) → Others rest answer → Gives (first ++ rest) answer)
      → MatchResult r (λ v. RepliesByExchanges makes mid after Others (bytes v)) (λ _. LosesReply makes mid after Others)
      → MatchResult r (λ v. RepliesByExchanges makes before after Gives (bytes v)) (λ _. LosesReply makes before after Gives)
  replied_after mid first Others (Ok v) made also replies = record {
    exchanges = first ++ replies.exchanges;
    answer = replies.answer;
    made = made_together makes before mid after first replies.exchanges made replies.made;
    gives = also replies.exchanges replies.answer replies.gives;
    bytes = replies.bytes;
  }
  replied_after mid first Others (Err e) made also loses = record {
    exchanges = first ++ loses.exchanges;
    answer = loses.answer;
    made = made_together makes before mid after first loses.exchanges made loses.made;
    gives = also loses.exchanges loses.answer loses.gives;
  }

-- a height other than 0
pub at_height : (r : ℕ) (key : List ℕ) (h : ℕ) (exchanges : List HttpExchange) (answer : AnswerView) → 0 < h
    → AnswersQueryAt r key h exchanges answer → AnswersQueryIf r key (Some h) exchanges answer
at_height r key zero exchanges answer above so = absurd (omega arith)
at_height r key (suc n) exchanges answer above so = so
