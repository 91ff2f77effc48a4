-- What a replica does by itself next, and what an entry of its history sent.
use Rattle.std.specs.Prelude.{ℕ, ◌+◌, ◌-◌, ◌*◌, ◌==◌, max, nat_lt, nat_le, Bool, false, not, ◌&&◌, ◌||◌, List, [], ◌∷◌, ◌++◌, length, Option, Some, None, is_some, if◌then◌else◌}
use Rattle.std.specs.List.{list_any}
use Rattle.ledger_model.specs.Meanings.{Meanings}
use Rattle.ledger_model.specs.declared.event.Event.{Event}
use Rattle.ledger_model.specs.declared.event.Event.TheVariants as event
use Rattle.ledger_model.specs.declared.statement.SignedStatement.{SignedStatement}
use Rattle.ledger_model.specs.declared.version.Version.{Version}
use Rattle.ledger_model.specs.Commits.{decided_at, floor_of, pool_of}
use Rattle.ledger_model.specs.Lawful.{clock_at}
use Rattle.ledger_model.specs.Limits.{max_height}
use Rattle.ledger_model.specs.Logs.{height_of}
use Rattle.ledger_model.specs.Reading.{reading_in}
use Rattle.ledger_model.specs.Rounds.{rounds_in_phase}
use Rattle.locked_replica.specs.States.{StateView}
use Rattle.replica_turns.specs.Turns.{height_in}
use Rattle.replica_turns.specs.declared.own_events.OwnEvents.{OwnEvents}

-- the height after the committed one is decided
abbrev pub is_next_decided : StateView → Bool
is_next_decided r = is_some (decided_at r.config r.id r.entries (height_in r + 1))

-- all replicas committed the height that this one committed last, or four rounds for each replica have ended since this one committed it, in
-- this round
abbrev pub may_open_next : StateView → ℕ → ℕ → Bool
may_open_next r round least =
    nat_le (height_in r) least || nat_le (rounds_in_phase * r.config.replicas) (clock_at r.entries - round)

-- the height after the committed one, if it may be opened, unless it is decided, or it or a greater one was proposed, or it is above the
-- last height
abbrev pub proposal_of : StateView → ℕ → ℕ → ℕ → Option ℕ
proposal_of r proposed round least =
    if not (is_next_decided r) && (nat_lt proposed (height_in r + 1) && nat_le (height_in r + 1) max_height) && may_open_next r round least
    then Some (height_in r + 1) else None

-- the height after `least`, if it is above the floor and at most one above the committed height
abbrev pub raised_floor : StateView → ℕ → Option ℕ
raised_floor r least =
    if nat_lt (floor_of r.entries) (least + 1) && nat_le (least + 1) (height_in r + 1) then Some (least + 1) else None

-- no transaction waits for a block of the replica
abbrev pub is_pool_empty : Meanings → StateView → Bool
is_pool_empty meaning r = length (pool_of meaning r.config r.id r.entries) == 0

-- the replica runs the decided block, if there is one; else it opens the next height, if that may be opened and was not proposed yet; and
-- it gives up the heights up to `least`, if it committed them and didn't give them up yet
abbrev pub own_of : Meanings → StateView → ℕ → ℕ → ℕ → OwnEvents
own_of meaning r proposed round least = record {
  is_decided = is_next_decided r;
  proposal = proposal_of r proposed round least;
  floor = raised_floor r least;
  is_pool_empty = is_pool_empty meaning r;
}

-- the frame's statement is about this height
abbrev pub is_about : ℕ → Option SignedStatement → Bool
is_about height None = false
is_about height (Some s) = height_of s.statement == height

-- one of these byte strings is a frame of this version about the height
abbrev pub has_frame_about : Version → ℕ → List (List ℕ) → Bool
has_frame_about version height frames = list_any (λ bytes. is_about height (reading_in version bytes)) frames

-- the height to open, of a replica that creates no empty blocks: it has a transaction for it, or a frame about it came
abbrev pub filled_proposal : Bool → Version → List (List ℕ) → Option ℕ → Option ℕ
filled_proposal empty version frames None = None
filled_proposal empty version frames (Some height) =
    if not empty || has_frame_about version height frames then Some height else None

-- what a replica that creates no empty blocks does of this, while these frames wait for it
abbrev pub without_empty_block : Version → List (List ℕ) → OwnEvents → OwnEvents
without_empty_block version frames own = record {
  is_decided = own.is_decided;
  proposal = filled_proposal own.is_pool_empty version frames own.proposal;
  floor = own.floor;
  is_pool_empty = own.is_pool_empty;
}

-- the event that opens the height, if there is one to open
abbrev pub opening : Option ℕ → List Event
opening None = []
opening (Some h) = event.Propose h ∷ []

-- the event that raises the floor, if it is to be raised
abbrev pub raising : Option ℕ → List Event
raising None = []
raising (Some floor) = event.Retire floor ∷ []

-- what the replica does by itself, as events
abbrev pub own_events : OwnEvents → List Event
own_events own = (if own.is_decided then event.Execute ∷ [] else []) ++ (opening own.proposal ++ raising own.floor)

-- the greatest height that was proposed, after these events, if it was `before` before them
abbrev pub proposed_in : ℕ → List Event → ℕ
proposed_in before [] = before
proposed_in before (event.Propose h ∷ es) = proposed_in (max before h) es
proposed_in before (_ ∷ es) = proposed_in before es

-- the round of the last run of a block, after these events in this round, if it was `before` before them
abbrev pub run_in : ℕ → ℕ → List Event → ℕ
run_in before round [] = before
run_in before round (event.Execute ∷ es) = run_in round round es
run_in before round (_ ∷ es) = run_in before round es
