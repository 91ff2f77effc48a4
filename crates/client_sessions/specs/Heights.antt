-- The heights that a client gets in replies never fall.
use Rattle.std.specs.Prelude.{◌≡◌, ◌⊎◌, ℕ, ◌≤◌, List, [], ◌∷◌, ◌++◌, Option}
use Rattle.std.specs.Int.{w32, to_be_bytes}
use Rattle.ledger_model.specs.Sessions.{Request, Query, Height, present, request_of}

-- the reply contains this height, and it is at least the one that the client asked for
abbrev pub ContainsHeight : Request → List ℕ → ℕ → Type 0
ContainsHeight (Query min key) reply height = (min ≤ height) × ((value : Option (List ℕ)) × (reply ≡ 0 ∷ to_be_bytes w32 height ++ present value))
ContainsHeight Height reply height = reply ≡ 0 ∷ to_be_bytes w32 height
ContainsHeight _ reply height = ⊥

-- the reply is a refusal: its status isn't 0
abbrev pub IsRefusalReply : List ℕ → Type 0
IsRefusalReply [] = ⊥
IsRefusalReply (status ∷ content) = 1 ≤ status

-- the reply contains no height: it is a refusal, or the request asks for none
abbrev pub TellsNone : Request → List ℕ → Type 0
TellsNone (Query min key) reply = IsRefusalReply reply
TellsNone Height reply = IsRefusalReply reply
TellsNone _ reply = Unit {0}

-- the reply contains the new greatest height, or contains no height
abbrev pub RisesBy : ℕ → Request → List ℕ → ℕ → Type 0
RisesBy least request reply greatest = ((greatest ≡ least) × TellsNone request reply) ⊎ ((least ≤ greatest) × ContainsHeight request reply greatest)

-- the heights in the replies to these bodies never fall, from `least` to `greatest`
unfoldable pub Rises : ℕ → List (List ℕ) → List (List ℕ) → ℕ → Type 0
Rises least [] [] greatest = greatest ≡ least
Rises least (body ∷ bodies) (reply ∷ replies) greatest =
    (next : ℕ) × (RisesBy least (request_of body) reply next × Rises next bodies replies greatest)
Rises least _ _ greatest = ⊥
