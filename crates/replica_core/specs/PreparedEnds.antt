-- The end of a round that is prepared: what each open height makes, the reply, and the core state after it.
use Rattle.ledger_model.specs.Meanings.{Meanings}
use Rattle.std.specs.Prelude.{◌≡◌, ℕ, ◌+◌, ◌<◌, ◌≤◌, Bool, List, map, Result, Ok, Err}
use Rattle.std.specs.List.{AllByRecursion}
use Rattle.ledger_model.specs.Limits.{last_round}
use Rattle.ledger_model.specs.declared.event.Event.TheVariants as event
use Rattle.ledger_model.specs.declared.reply.LastRound.{LastRound}
use Rattle.ledger_model.specs.declared.reply.Reply.TheVariants as reply
use Rattle.ledger_model.specs.declared.reply.RoundEnded.{RoundEnded}
use Rattle.instance.specs.declared.round_statement.RoundStatement.{RoundStatement}
use Rattle.instance.specs.Plans.{opened_effects, IsOwnMade}
use Rattle.height_row.specs.declared.round_closing.RoundClosing.{RoundClosing}
use Rattle.key_ring.specs.Signers.{SignerView}
use Rattle.replica_core.specs.Replays.{ReplayView}
use Rattle.replica_core.specs.RoundEnds.{round_ended, after_end}
use Rattle.replica_core.specs.Steps.{IsStep, UsesLeaves}
use Rattle.replica_core.specs.Cores.{CoreView}

-- how each open height closes its round, in order, and the reply to the round end
pub record PreparedView : Type 0 where
  pub closings : List RoundClosing
  pub ended : RoundEnded

-- what each open height makes
abbrev pub made_by_closings : List RoundClosing → List RoundStatement
made_by_closings closings = map (λ c. c.made) closings

-- the end if the heights close their rounds so
abbrev pub prepared_of : ReplayView → Bool → List RoundClosing → PreparedView
prepared_of held mute closings = record { closings = closings; ended = round_ended held mute (made_by_closings closings) }

-- the core state after the end
abbrev pub after_prepared : ReplayView → PreparedView → ReplayView
after_prepared held prepared = after_end held prepared.ended.mute (made_by_closings prepared.closings)

-- The end was prepared for this core state: another round follows, each open height ends as it prepares to and makes only what is the
-- replica's own, and the reply has their frames.
pub record IsPreparedFor (held : ReplayView) (prepared : PreparedView) : Type 0 where
  pub clock : held.clock < last_round
  pub endings : map (λ c. c.ending) prepared.closings ≡ map (λ row. opened_effects row (held.clock + 1)) held.rows
  pub own : AllByRecursion (λ c. IsOwnMade held.config held.id c.made) prepared.closings
  pub reply : prepared.ended ≡ round_ended held prepared.ended.mute (made_by_closings prepared.closings)

-- the end was prepared for the core's state, is a step, and uses the leaves that are used now
pub record IsEndPrepared (meaning : Meanings) (old : CoreView) (prepared : PreparedView) (keys : SignerView) : Type 0 where
  pub ready : IsPreparedFor old.replay prepared
  pub step : IsStep meaning old.replay event.RoundEnd (reply.RoundEnded (Ok prepared.ended)) (after_prepared old.replay prepared)
  pub leaves : UsesLeaves old.keys old.replay.clock (reply.RoundEnded (Ok prepared.ended)) keys

-- only leaves were used, at most this many
pub record UsesAtMost (old new : CoreView) (count : ℕ) : Type 0 where
  pub replay : new ≡ record old { keys = new.keys }
  pub secret : new.keys.secret ≡ old.keys.secret
  pub least : old.keys.used ≤ new.keys.used
  pub most : new.keys.used ≤ old.keys.used + count

-- ---- what is prepared where the last round may be open

-- the reply to the round end
abbrev pub prepared_reply : Result PreparedView LastRound → Result RoundEnded LastRound
prepared_reply (Ok prepared) = Ok prepared.ended
prepared_reply (Err last) = Err last

-- the core state after the round end: as it is if the last round is open
abbrev pub after_prepared_reply : ReplayView → Result PreparedView LastRound → ReplayView
after_prepared_reply held (Ok prepared) = after_prepared held prepared
after_prepared_reply held (Err last) = held
