-- What a replica made at each open height, according to the frames of its round end.
use Rattle.ledger_model.specs.Meanings.{Meanings}
use Rattle.std.specs.Prelude.{◌≡◌, ℕ, ◌+◌, ◌<◌, ◌==◌, Bool, true, false, List, [], ◌∷◌, length, map, Option, Some, None, is_some, Ok}
use Rattle.std.specs.Prelude.{if◌then◌else◌}
use Rattle.std.specs.List.{filter_map, list_any, AllByRecursion}
use Rattle.ledger_model.specs.Limits.{last_round}
use Rattle.ledger_model.specs.declared.event.Event.TheVariants as event
use Rattle.ledger_model.specs.declared.history.Entry.{Entry}
use Rattle.ledger_model.specs.declared.reply.Reply.TheVariants as reply
use Rattle.ledger_model.specs.declared.reply.RoundEnded.{RoundEnded}
use Rattle.ledger_model.specs.declared.reply.Sent.{Sent}
use Rattle.ledger_model.specs.declared.statement.SignedStatement.{SignedStatement}
use Rattle.ledger_model.specs.Logs.{height_of}
use Rattle.ledger_model.specs.Reading.{reading}
use Rattle.ledger_model.specs.Spelling.{IsFrame}
use Rattle.instance.specs.declared.round_statement.RoundStatement.{RoundStatement}
use Rattle.instance.specs.declared.round_statement.RoundStatement.TheVariants as made
use Rattle.instance.specs.Instances.{InstanceView}
use Rattle.instance.specs.Plans.{opened_effects, IsOwnMade}
use Rattle.replica_core.specs.Replays.{ReplayView, IsWithinLimits, MatchesHistory}
use Rattle.replica_core.specs.RoundEnds.{AreMade, frames_of_heights}
use Rattle.replica_core.specs.ChosenEnds.{all_mute}
use Rattle.replica_core.specs.Following.{KeepsReplay}

-- ---- what the frames contain

-- the statements that the frames encode
abbrev pub statements_shown : List Sent → List SignedStatement
statements_shown frames = filter_map (λ f. reading f.frame) frames

-- the statement of the height among the remaining ones: the next, if it is of this height
abbrev pub next_shown : ℕ → List SignedStatement → Option SignedStatement
next_shown h [] = None
next_shown h (s ∷ ss) = if height_of s.statement == h then Some s else None

-- the statements that remain after it
abbrev pub left_next : ℕ → List SignedStatement → List SignedStatement
left_next h [] = []
left_next h (s ∷ ss) = if height_of s.statement == h then ss else s ∷ ss

-- what the replica made, if it sent this
abbrev pub made_of : Option SignedStatement → RoundStatement
made_of None = made.Unsent
made_of (Some s) = made.Sent s

-- what the replica made at each of these heights in turn
abbrev pub made_each : List ℕ → List SignedStatement → List RoundStatement
made_each [] ss = []
made_each (h ∷ hs) ss = made_of (next_shown h ss) ∷ made_each hs (left_next h ss)

-- nothing is made at any height
abbrev pub all_unsent : List InstanceView → List RoundStatement
all_unsent rows = map (λ row. made.Unsent) rows

-- whether the list has an element
abbrev pub is_some_there : {X : Type 0} → List X → Bool
is_some_there [] = false
is_some_there (x ∷ xs) = true

-- some height sends locks on as round c opens
abbrev pub sends_locks_on : ℕ → List InstanceView → Bool
sends_locks_on c rows = list_any (λ row. is_some_there (opened_effects row c).sends_on) rows

-- what each height made; a mute replica makes nothing, and neither does one that sends locks on
abbrev pub made_shown : Bool → ℕ → List InstanceView → List SignedStatement → List RoundStatement
made_shown mute c rows ss =
    if mute then all_mute rows else if sends_locks_on c rows then all_unsent rows else made_each (map (λ row. row.height) rows) ss

-- ---- the frames

-- both have the same addressee, and encode the same statement
pub record IsShownAlike (one other : Sent) : Type 0 where
  pub addressed : one.addressee ≡ other.addressee
  pub signed : SignedStatement
  pub one_reads : reading one.frame ≡ Some signed
  pub other_reads : reading other.frame ≡ Some signed

-- the two lists agree so, frame by frame
abbrev pub AreShownAlike : List Sent → List Sent → Type 0
AreShownAlike [] [] = Unit {0}
AreShownAlike (x ∷ xs) (y ∷ ys) = IsShownAlike x y × AreShownAlike xs ys
AreShownAlike [] (y ∷ ys) = ⊥
AreShownAlike (x ∷ xs) [] = ⊥

-- ---- the end of a round

-- the round end continues the replay
abbrev pub KeepsEnd : Meanings → ReplayView → List Entry → RoundEnded → Type 0
KeepsEnd meaning held entries end = KeepsReplay meaning held entries event.RoundEnd (reply.RoundEnded (Ok end))

-- if the heights make this, they send the frames of the round end
abbrev pub ShowsFrames : ReplayView → RoundEnded → List RoundStatement → Type 0
ShowsFrames held end ms = AreShownAlike (frames_of_heights held.config (held.clock + 1) held.rows ms) end.frames

-- If a round end is lawful and signed, its frames are those of what they say was made, and each open height may make that.
abbrev pub EndsShow : Type 0
EndsShow =
    (meaning : Meanings) (held : ReplayView) (entries : List Entry) (end : RoundEnded)
    → IsWithinLimits held → held.clock < last_round → MatchesHistory meaning held entries → KeepsEnd meaning held entries end
    → (end.mute ≡ false → sends_locks_on (held.clock + 1) held.rows ≡ false → AllByRecursion IsFrame (statements_shown end.frames))
    → (let ms = made_shown end.mute (held.clock + 1) held.rows (statements_shown end.frames) in
    AreMade held.ring end.mute (held.clock + 1) held.rows ms × ShowsFrames held end ms)

-- each frame encodes a statement
abbrev pub AreSpelled : List Sent → Type 0
AreSpelled frames = AllByRecursion (λ f. is_some (reading f.frame) ≡ true) frames

-- what the frames say was made: each height may make it, and if the round end continues the replay, its frames are the
-- ones that this sends
pub record IsShown (meaning : Meanings) (held : ReplayView) (end : RoundEnded) (ms : List RoundStatement) : Type 0 where
  pub made : (entries : List Entry) → MatchesHistory meaning held entries → AreMade held.ring end.mute (held.clock + 1) held.rows ms
  pub frames : (entries : List Entry) → MatchesHistory meaning held entries → KeepsEnd meaning held entries end → ShowsFrames held end ms
  pub own : AllByRecursion (IsOwnMade held.config held.id) ms
  pub count : length ms ≡ length held.rows

-- the round end continues no replay that the state matches
abbrev pub KeepsNone : Meanings → ReplayView → RoundEnded → Type 0
KeepsNone meaning held end = (entries : List Entry) → MatchesHistory meaning held entries → KeepsEnd meaning held entries end → ⊥
