-- Exchanges with a replica: those of a client session, and those that HTTP alone has.
use Rattle.std.specs.Prelude.{ℕ, List, Option}
use Rattle.ledger_model.specs.Sessions.{Exchange}
use Rattle.http_messages.specs.declared.metrics.ReplicaMetrics.{ReplicaMetrics}
use Rattle.http_sessions.specs.declared.targets.AppInfo.{AppInfo}
use Rattle.http_sessions.specs.declared.targets.Delivery.{Delivery}
use Rattle.http_sessions.specs.declared.targets.PoolSize.{PoolSize}
use Rattle.http_sessions.specs.declared.targets.Progress.{Progress}

-- what HTTP alone asks a replica, and the answer: none if the state that the replica's lock guards is another replica's
pub data Inquiry : Type 0 where
  Shows : (replica : ℕ) (metrics : Option ReplicaMetrics) → Inquiry
  Progresses : (replica : ℕ) (progress : Option Progress) → Inquiry
  Pools : (replica : ℕ) (size : Option PoolSize) → Inquiry
  Infos : (replica : ℕ) (info : Option AppInfo) → Inquiry
  Spreads : (replica : ℕ) (tx : List ℕ) → Inquiry
  Waits : (replica : ℕ) (tx : List ℕ) (index : ℕ) (delivery : Option Delivery) → Inquiry

-- an exchange with a replica: as in a client session, or an inquiry
pub data HttpExchange : Type 0 where
  Asked : (exchange : Exchange) → HttpExchange
  Inquired : (inquiry : Inquiry) → HttpExchange

-- the targets before an exchange and after it, by what they say of either kind
abbrev pub Makes : {T : Type 0} → (T → Exchange → T → Type 0) → (T → Inquiry → T → Type 0) → T → HttpExchange → T → Type 0
Makes asks inquires before (Asked exchange) after = asks before exchange after
Makes asks inquires before (Inquired inquiry) after = inquires before inquiry after
