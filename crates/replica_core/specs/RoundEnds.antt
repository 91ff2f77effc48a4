-- What a round end makes and sends, over all open heights.
use Rattle.ledger_model.specs.Meanings.{Meanings}
use Rattle.std.specs.Prelude.{◌≡◌, ℕ, ◌+◌, ◌<◌, Bool, true, IsTrue, MatchBool, List, [], ◌∷◌, ◌++◌, map, Option, Some, None, is_some, Ok}
use Rattle.std.specs.Prelude.{if◌then◌else◌}
use Rattle.ledger_model.specs.Limits.{last_round}
use Rattle.ledger_model.specs.declared.config.Config.{Config}
use Rattle.ledger_model.specs.declared.event.Event.TheVariants as event
use Rattle.ledger_model.specs.declared.history.Entry.{Entry}
use Rattle.ledger_model.specs.declared.reply.Addressee.TheVariants as addressee
use Rattle.ledger_model.specs.declared.reply.Reply.TheVariants as reply
use Rattle.ledger_model.specs.declared.reply.RoundEnded.{RoundEnded}
use Rattle.ledger_model.specs.declared.reply.Sent.{Sent}
use Rattle.ledger_model.specs.declared.statement.SignedStatement.{SignedStatement}
use Rattle.ledger_model.specs.declared.statement.Statement.{Statement}
use Rattle.ledger_model.specs.Spelling.{statement_bytes, frame_bytes}
use Rattle.ledger_model.specs.Rules.{Ring}
use Rattle.ledger_model.specs.Lawful.{LawfulRoundEnd, addressee_of, is_signed_reply}
use Rattle.lms_tree.specs.Trees.{Secret}
use Rattle.key_ring.specs.Signers.{signed_with}
use Rattle.instance.specs.declared.round_statement.RoundStatement.{RoundStatement}
use Rattle.instance.specs.declared.round_statement.RoundStatement.TheVariants as made
use Rattle.instance.specs.Instances.{InstanceView}
use Rattle.instance.specs.Plans.{MaySend, chosen_statement, opened_effects, is_mute_made, own_statement_sent, IsOwnMade}
use Rattle.instance.specs.Laws.{IsSignedMade, IsFrameMade}
use Rattle.height_row.specs.Heights.{closed_each}
use Rattle.replica_core.specs.Replays.{ReplayView, IsWithinLimits, MatchesHistory}

-- ---- what the heights make

-- the replica's own statement that is sent, if one is
abbrev pub own_statement : RoundStatement → Option Statement
own_statement made.Mute = None
own_statement made.Unsent = None
own_statement (made.Sent f) = Some f.statement

-- the height may make this as round c opens: nothing if the replica is mute; otherwise what may be sent there, signed
pub record IsMadeAt (ring : Ring) (mute : Bool) (c : ℕ) (row : InstanceView) (m : RoundStatement) : Type 0 where
  pub silent : is_mute_made m ≡ mute
  pub may : MatchBool mute (Unit {0}) (MaySend row c (own_statement m))
  pub own : IsOwnMade row.config row.id m
  pub signed : IsSignedMade ring m
  pub frame : IsFrameMade m

-- each open height may make its item
abbrev pub AreMade : Ring → Bool → ℕ → List InstanceView → List RoundStatement → Type 0
AreMade ring mute c [] [] = Unit {0}
AreMade ring mute c (row ∷ rows) (m ∷ ms) = IsMadeAt ring mute c row m × AreMade ring mute c rows ms
AreMade ring mute c [] (m ∷ ms) = ⊥
AreMade ring mute c (row ∷ rows) [] = ⊥

-- ---- what is sent

-- a statement of the replica's own, with its addressee
abbrev pub sent_own : Config → SignedStatement → Sent
sent_own config s = record { addressee = addressee_of config s.statement; frame = frame_bytes s }

-- a lock that is sent on to all replicas
abbrev pub sent_on : List ℕ → Sent
sent_on frame = record { addressee = addressee.All; frame = frame }

-- the frames of one height as round c opens
abbrev pub frames_of_height : Config → ℕ → InstanceView → RoundStatement → List Sent
frames_of_height config c row m = map (sent_own config) (own_statement_sent m) ++ map sent_on (opened_effects row c).sends_on

-- the frames of all open heights, in order
abbrev pub frames_of_heights : Config → ℕ → List InstanceView → List RoundStatement → List Sent
frames_of_heights config c (row ∷ rows) (m ∷ ms) = frames_of_height config c row m ++ frames_of_heights config c rows ms
frames_of_heights config c [] ms = []
frames_of_heights config c (row ∷ rows) [] = []

-- ---- the end of a round

-- the reply to the round end
abbrev pub round_ended : ReplayView → Bool → List RoundStatement → RoundEnded
round_ended held mute ms = record { mute = mute; frames = frames_of_heights held.config (held.clock + 1) held.rows ms }

-- the core state after the round end
abbrev pub after_end : ReplayView → Bool → List RoundStatement → ReplayView
after_end held mute ms = record held { rows = closed_each (held.clock + 1) held.rows ms; clock = held.clock + 1; mute = mute }

-- the round end is lawful and signed after the history, and the state after it matches the longer history
pub record IsRoundEnd (meaning : Meanings) (held : ReplayView) (mute : Bool) (ms : List RoundStatement)
    (entries : List Entry) : Type 0 where
  pub lawful : LawfulRoundEnd held.config held.id entries (round_ended held mute ms)
  pub signed : IsTrue (is_signed_reply held.ring (reply.RoundEnded (Ok (round_ended held mute ms))))
  pub matches : MatchesHistory meaning (after_end held mute ms)
      (entries ++ record { event = event.RoundEnd; reply = reply.RoundEnded (Ok (round_ended held mute ms)) } ∷ [])

-- if each open height makes what it may make, the end of the round is lawful
abbrev pub RoundsEnd : Type 0
RoundsEnd =
    (meaning : Meanings) (held : ReplayView) (mute : Bool) (ms : List RoundStatement) (entries : List Entry)
    → IsWithinLimits held → held.clock < last_round → MatchesHistory meaning held entries → (held.mute ≡ true → mute ≡ true)
    → AreMade held.ring mute (held.clock + 1) held.rows ms
    → IsRoundEnd meaning held mute ms entries × IsWithinLimits (after_end held mute ms)

-- ---- what a replica chooses

-- the number of statements that are due as round c opens
abbrev pub due : ℕ → List InstanceView → ℕ
due c [] = 0
due c (row ∷ rows) = (if is_some (chosen_statement row c) then 1 else 0) + due c rows

-- each height makes what it chooses, signed with the leaves from `leaf` on, in order
abbrev pub SignsFrom : Secret → ℕ → ℕ → List InstanceView → List RoundStatement → Type 0
SignsFrom secret leaf c [] [] = Unit {0}
SignsFrom secret leaf c (row ∷ rows) (made.Unsent ∷ ms) = (chosen_statement row c ≡ None) × SignsFrom secret leaf c rows ms
SignsFrom secret leaf c (row ∷ rows) (made.Sent f ∷ ms) =
    (chosen_statement row c ≡ Some f.statement) × (f.signature ≡ signed_with secret leaf (statement_bytes f.statement))
    × SignsFrom secret (leaf + 1) c rows ms
SignsFrom secret leaf c (row ∷ rows) (made.Mute ∷ ms) = ⊥
SignsFrom secret leaf c [] (m ∷ ms) = ⊥
SignsFrom secret leaf c (row ∷ rows) [] = ⊥
