-- Worked examples, computed by the definitions.
use Rattle.std.proofs.Common.{refl, [], ◌∷◌, inl, arith}
use Rattle.std.specs.Prelude.{Ok, Err}
use Rattle.ledger_model.specs.declared.event.Event.TheVariants as event
use Rattle.ledger_model.specs.declared.reply.Reply.TheVariants as reply
use Rattle.ledger_model.specs.declared.reply.Ignored.TheVariants as cause
use Rattle.ledger_laws.specs.Examples.{TwoNameOne, ThreeDiffer, TwoAgree, TwoNameAll, CutToFour, ThreeAcksDecide, LockReleased}
use Rattle.ledger_laws.specs.Examples.{TwoLocksHeld, ReportSpelled, FramesReadBack, BatchLimits, DigitsAndChecksums, CounterCounts}
use Rattle.ledger_laws.specs.Examples.{CounterChecks, PursePays, FirstEntriesReplay, OwnListingIsNoOthers, LogOfARound, LockSentOn}
use Rattle.ledger_laws.specs.Examples.{RoundEntriesReplay, WorldRuns, tx_a, world_after}
use Rattle.ledger_model.specs.Proper.{is_all_proper, proper_values}
use Rattle.ledger_model.specs.Locks.{decided_of, holds, held_values}
use Rattle.ledger_model.specs.Spelling.{statement_bytes, body_bytes, frame_bytes}
use Rattle.ledger_model.specs.Reading.{reading_in, body_reading, statement_at, report_at}
use Rattle.ledger_model.specs.Reading.{lock_at, proof_at, signed_at, place_at, positive_at}
use Rattle.ledger_model.specs.Reading.{flag_at, value_at, txs_at, tx_at, list_at, values_at, signature_at}
use Rattle.ledger_model.specs.Signatures.{coef, checksum}
use Rattle.ledger_model.specs.Meanings.{accepted_by, codes_by}
use Rattle.ledger_model.specs.Kinds.{store, counter, purse}
use Rattle.ledger_model.specs.Replies.{check_reply, query_reply}
use Rattle.ledger_model.specs.Commits.{submit_reply, propose_reply, execute_reply, commits_of, floor_of, pool_of, pool_after}
use Rattle.ledger_model.specs.Logs.{log_of, log_after, notes_of, statements_made, statements_sent, own_ack}
use Rattle.ledger_model.specs.Rules.{MayMake, causes}
use Rattle.ledger_model.specs.Worlds.{World, beginning, with_entry, Runs, event_of, frames_sent}
use Rattle.ledger_model.specs.Lawful.{held_locks, Replay, ReplaysFrom}

pub two_name_one : TwoNameOne
unfolding proper_values is_all_proper
two_name_one = (refl, refl)

pub three_differ : ThreeDiffer
unfolding is_all_proper
three_differ = refl

pub two_agree : TwoAgree
unfolding proper_values is_all_proper
two_agree = (refl, refl)

pub two_name_all : TwoNameAll
unfolding is_all_proper
two_name_all = refl

pub cut_to_four : CutToFour
unfolding proper_values is_all_proper
cut_to_four = (refl, refl)

pub three_acks_decide : ThreeAcksDecide
unfolding decided_of
three_acks_decide = (refl, refl, refl, refl)

pub lock_released : LockReleased
unfolding held_values holds
lock_released = (refl, refl, refl, refl)

pub two_locks_held : TwoLocksHeld
unfolding held_values holds
two_locks_held = refl

pub report_spelled : ReportSpelled
report_spelled = (refl, refl)

pub frames_read_back : FramesReadBack
unfolding frame_bytes body_bytes statement_bytes reading_in body_reading statement_at place_at positive_at flag_at tx_at report_at lock_at
    proof_at signed_at value_at txs_at list_at values_at signature_at
frames_read_back = (refl, refl, refl, refl)

pub batch_limits : BatchLimits
unfolding value_at
batch_limits = (refl, refl, λ bytes. refl, λ bytes. refl)

pub digits_and_checksums : DigitsAndChecksums
unfolding checksum coef
digits_and_checksums = (refl, refl, refl, refl)

pub counter_counts : CounterCounts
unfolding codes_by counter query_reply accepted_by
counter_counts = (refl, refl)

pub counter_checks : CounterChecks
unfolding check_reply counter accepted_by
counter_checks = (refl, refl, refl)

pub purse_pays : PursePays
unfolding codes_by purse query_reply accepted_by
purse_pays = (refl, refl)

pub first_entries_replay : FirstEntriesReplay
unfolding Replay ReplaysFrom submit_reply propose_reply execute_reply commits_of floor_of pool_of pool_after check_reply store
    accepted_by log_of log_after notes_of decided_of
first_entries_replay = (refl, refl, (refl, refl, (refl, refl, (refl, refl, (refl, refl, (refl, refl, tt))))))

pub own_listing_is_no_others : OwnListingIsNoOthers
unfolding proper_values is_all_proper
own_listing_is_no_others = (refl, refl, refl)

pub log_of_a_round : LogOfARound
unfolding log_of log_after notes_of statements_made statements_sent own_ack reading_in body_reading statement_at place_at positive_at
    flag_at
    tx_at report_at value_at txs_at list_at values_at signature_at frame_bytes body_bytes statement_bytes
log_of_a_round = (refl, refl)

pub lock_sent_on : LockSentOn
unfolding held_locks held_values holds
lock_sent_on = refl

pub round_entries_replay : RoundEntriesReplay
unfolding Replay ReplaysFrom propose_reply commits_of floor_of pool_of pool_after log_of log_after notes_of statements_made statements_sent
    own_ack MayMake causes reading_in body_reading statement_at place_at positive_at flag_at tx_at report_at value_at txs_at list_at
    values_at
    signature_at frame_bytes body_bytes statement_bytes
round_entries_replay = (
  (
    omega arith,
    record {
      mute = λ m. absurd (cc m);
      frames = tt;
      order = refl;
      makes = λ h. refl;
      sends_on =
          λ h place. absurd (cc place);
    },
  ),
  refl,
  (refl, refl, (refl, refl, (refl, refl, (refl, refl, (refl, refl, tt))))),
)

pub world_runs : WorldRuns
unfolding Runs event_of frames_sent submit_reply commits_of pool_of pool_after check_reply store accepted_by reading_in
world_runs = (
  start,
  (refl, refl),
  (
    start,
    (refl, refl),
    (
      start,
      (refl, refl),
      (
        one_entry,
        inl (reply.Submitted (Ok tt), refl, refl, refl),
        (world_after, inl (reply.Delivered (Err cause.Malformed), refl, refl, refl), refl),
      ),
    ),
  ),
)
  where
    start : World
    start = beginning (0 ∷ 2 ∷ 3 ∷ [])

    one_entry : World
    one_entry = with_entry start 0 (record { event = event.Submit tx_a; reply = reply.Submitted (Ok tt) })
