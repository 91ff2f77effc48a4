-- Which of all replicas a request asks, by the heights that each was asked for.
use Rattle.std.specs.Prelude.{◌≡◌, ℕ, Bool, true, false, nat_lt, List, ◌∷◌, ◌++◌, map}
use Rattle.std.specs.List.{All, FoldsTo, range_with_len}
use Rattle.ledger_model.specs.Sessions.{Heights}
use Rattle.http_sessions.specs.Exchanges.{HttpExchange, Asked}
use Rattle.http_sessions.specs.declared.choosing.Choice.{Choice}
use Rattle.http_sessions.specs.declared.choosing.Choice.TheVariants as choice

-- a replica with this height is chosen before one with the other: it has committed more, or less
abbrev pub prefers : Choice → ℕ → ℕ → Bool
prefers choice.MostCommitted height other = nat_lt other height
prefers choice.LeastCommitted height other = nat_lt height other

-- the exchanges in which replicas were asked for their heights, by these (replica, height) pairs
abbrev pub exchanges_of_heights : List (ℕ × ℕ) → List HttpExchange
exchanges_of_heights pairs = map (λ (p : ℕ × ℕ). Asked (Heights p.0 p.1)) pairs

-- these (replica, height) pairs are those of `count` replicas, in order from replica 0 on; the first with the greatest height, or with the
-- least, is this replica's
pub record IsChosen (of : Choice) (count : ℕ) (pairs : List (ℕ × ℕ)) (replica height : ℕ) : Type 0 where
  pub each : map (λ (p : ℕ × ℕ). p.0) pairs ≡ range_with_len 0 count
  pub before : List (ℕ × ℕ)
  pub after : List (ℕ × ℕ)
  pub split : pairs ≡ before ++ (replica, height) ∷ after
  pub preferred : All (λ (p : ℕ × ℕ). prefers of height p.1 ≡ true) before
  pub none_better : All (λ (p : ℕ × ℕ). prefers of p.1 height ≡ false) after

-- `count` replicas were asked for their heights, in order, and this one is the first of those that have committed most, or least
pub record FindsChosen {T : Type 0} (makes : T → HttpExchange → T → Type 0) (of : Choice) (before after : T) (count replica : ℕ) : Type 0 where
  pub pairs : List (ℕ × ℕ)
  pub height : ℕ
  pub chosen : IsChosen of count pairs replica height
  pub made : FoldsTo makes before (exchanges_of_heights pairs) after
