-- The end of a round at a replica that makes what it chooses, and at a mute replica.
use Rattle.ledger_model.specs.Meanings.{Meanings}
use Rattle.std.specs.Prelude.{◌≡◌, ℕ, ◌+◌, ◌<◌, Bool, true, false, List, map, Some, Ok, slice_get}
use Rattle.std.specs.List.{AllByRecursion}
use Rattle.ledger_model.specs.Limits.{last_round}
use Rattle.ledger_model.specs.declared.event.Event.TheVariants as event
use Rattle.ledger_model.specs.declared.reply.Reply.{Reply}
use Rattle.ledger_model.specs.declared.reply.Reply.TheVariants as reply
use Rattle.ledger_model.specs.Signatures.{verifies}
use Rattle.ledger_model.specs.Spelling.{statement_bytes}
use Rattle.key_ring.specs.Signers.{SignerView, public_key_of}
use Rattle.instance.specs.declared.round_statement.RoundStatement.{RoundStatement}
use Rattle.instance.specs.declared.round_statement.RoundStatement.TheVariants as made
use Rattle.instance.specs.Instances.{InstanceView}
use Rattle.instance.specs.Laws.{IsFrameMade}
use Rattle.replica_core.specs.Replays.{ReplayView, IsWithinLimits}
use Rattle.replica_core.specs.RoundEnds.{round_ended, after_end, due, SignsFrom}
use Rattle.replica_core.specs.Steps.{IsStep, UsesLeaves}

-- a mute replica makes nothing at any open height
abbrev pub all_mute : List InstanceView → List RoundStatement
all_mute rows = map (λ row. made.Mute) rows

-- a statement that is sent verifies under the key
abbrev pub IsVerifiedMade : List ℕ → RoundStatement → Type 0
IsVerifiedMade key made.Mute = Unit {0}
IsVerifiedMade key made.Unsent = Unit {0}
IsVerifiedMade key (made.Sent f) = verifies key (statement_bytes f.statement) f.signature ≡ true

-- a statement that is sent is a frame, and verifies under the key
abbrev pub IsFrameUnder : List ℕ → RoundStatement → Type 0
IsFrameUnder key m = IsFrameMade m × IsVerifiedMade key m

-- the reply to the round end if the heights make this
abbrev pub end_reply : ReplayView → Bool → List RoundStatement → Reply
end_reply held mute ms = reply.RoundEnded (Ok (round_ended held mute ms))

-- the end of a round at a mute replica is a step, and uses no leaf
abbrev pub MuteEnds : Type 0
MuteEnds =
    (meaning : Meanings) (held : ReplayView) → IsWithinLimits held → held.clock < last_round
    → IsStep meaning held event.RoundEnd (end_reply held true (all_mute held.rows)) (after_end held true (all_mute held.rows))
    × ((keys : SignerView) → UsesLeaves keys held.clock (end_reply held true (all_mute held.rows)) keys)

-- the end of a round at which the replica makes what it chooses, signed with the next leaves of its key in the ring, is
-- a step, and uses a leaf for each statement that is due
abbrev pub SignedEnds : Type 0
SignedEnds =
    (meaning : Meanings) (held : ReplayView) (keys : SignerView) (ms : List RoundStatement)
    → IsWithinLimits held → held.clock < last_round → held.mute ≡ false → slice_get held.ring held.id ≡ Some (public_key_of keys.secret)
    → SignsFrom keys.secret keys.used (held.clock + 1) held.rows ms → AllByRecursion (IsFrameUnder (public_key_of keys.secret)) ms
    → IsStep meaning held event.RoundEnd (end_reply held false ms) (after_end held false ms)
    × UsesLeaves keys held.clock (end_reply held false ms) (record keys { used = keys.used + due (held.clock + 1) held.rows })
