use Rattle.std.proofs.Common.{◌≡◌, ℕ, ◌*◌, ◌<◌, List, [], length, take, slice_index, slice_index_or, slice_set, inl, inr, subst, refl, sym}
use Rattle.std.proofs.Common.{ap, ◌∙◌, arith, length-set}
use Rattle.std.proofs.lemmas.List.{get_or-set_same, get_or-set_other}
use Rattle.std.proofs.lemmas.Bool.{cases_lt}
use Rattle.sha2.specs.Sha256.{compress, padded_message, rounds, schedule, word_at}
use Rattle.sha2.proofs.Schedule256.{slice_index-schedule_first}
use Rattle.sha_lanes.specs.Lanes.{lane}
use Rattle.sha_lanes.specs.Turns.{AreBytes, after_turns}
use Rattle.sha_lanes.proofs.TurnLemmas.{rounds-same, length-after, bytes-after, bytes-padded, after-more, front-padded}
use Rattle.sha_lanes.proofs.Blocks.{length-padded}
use Rattle.sha_lanes.proofs.turns.take_turns.Goals as goal

pub loop-turn-init : goal.loop-turn-init
unfolding after_turns
loop-turn-init c = record {
  words = λ j k low below. c.message_words-first.ensures.read j k low below;
  front = λ j k low below. c.message_words-first.ensures.read j k low (omega arith);
}

pub loop-turn-preserved : goal.loop-turn-preserved
unfolding after_turns
loop-turn-preserved c =
    let message : ℕ → List ℕ = λ j. slice_index_or c.args.messages.now j [] in
    let kept = c.loop-turn.invariant in
    let t = c.loop-turn.turn in
    let bytes : (j : ℕ) → j < 8 → AreBytes (message j) = c.message_words-first.ensures.bytes in
    let whole : (j : ℕ) → j < 8 → length (message j) ≡ 55 = c.message_words-first.ensures.whole in
    let begun : (j : ℕ) → j < 8 → lane j c.first_rounds-begun.result ≡ rounds (lane j c.initial_state-in-loop-turn.result)
    (schedule (padded_message (after_turns t (message j))) 48) 5 = λ j low.
    let b = padded_message (message j) in
    let d = padded_message (after_turns t (message j)) in
    let words : (t : ℕ) → t < 5 → slice_index (schedule b 48) t ≡ slice_index (schedule d 48) t = λ k below.
    slice_index-schedule_first b 48 k (omega arith) ∙ sym (kept.front j k low below) ∙ kept.words j k low (omega arith)
    ∙ sym (slice_index-schedule_first d 48 k (omega arith)) in
    let h = c.initial_state.ensures j low ∙ sym (c.initial_state-in-loop-turn.ensures j low) in
    c.first_rounds-begun.ensures j low b (λ k below. c.message_words-first.ensures.read j k low below)
    ∙ ap (λ h. rounds h (schedule b 48) 5) h
    ∙ rounds-same (lane j c.initial_state-in-loop-turn.result) (schedule b 48) (schedule d 48) 5 words in
    record {
      words = λ j k low below. c.next_words-words.ensures.next j low (after_turns t (message j)) (length-after (message j) t (whole j low))
          (bytes-after (message j) t (whole j low) (bytes j low)) (λ k below. kept.words j k low below)
          (c.compress_from-state.ensures j low (padded_message (after_turns t (message j))) (λ k below. kept.words j k low below)
          (begun j low) ∙ ap (λ h. compress h (padded_message (after_turns t (message j))))
          (c.initial_state-in-loop-turn.ensures j low)) k below
          ∙ ap (λ b. word_at (padded_message b) (4 * k)) (sym (after-more (message j) t));
      front = λ j k low below. c.next_words-words.ensures.front j k low below ∙ kept.front j k low below;
    }

pub loop-lane-init : goal.loop-lane-init
loop-lane-init c = record { many = c.told-messages; done = λ j below. absurd (omega arith); waits = λ j above. refl }

pub loop-lane-preserved : goal.loop-lane-preserved
loop-lane-preserved c =
    let message : ℕ → List ℕ = λ j. slice_index_or c.args.messages.now j [] in
    let kept = c.loop-lane.invariant in
    let lane = c.loop-lane.lane in
    let low : lane < 8 = c.loop-lane-test.true in
    let inside : lane < length c.loop-lane.messages = omega (arith, low, kept.many) in
    let n = c.args.count in
    let whole : (j : ℕ) → j < 8 → length (message j) ≡ 55 = c.message_words-first.ensures.whole in
    let bytes : (j : ℕ) → j < 8 → AreBytes (message j) = c.message_words-first.ensures.bytes in
    let turns : c.loop-turn.turn ≡ n = omega arith in
    let long = length-after (message lane) n (whole lane low) in
    let block : c.block_of.result ≡ padded_message (after_turns n (message lane)) =
    c.block_of.ensures (padded_message (after_turns n (message lane))) (length-padded (after_turns n (message lane)) long)
    (bytes-padded (after_turns n (message lane)) long (bytes-after (message lane) n (whole lane low) (bytes lane low)))
    (λ k below. c.loop-turn.invariant.words lane k low below
    ∙ ap (λ t. word_at (padded_message (after_turns t (message lane))) (4 * k)) turns) in
    let put : c.put_front.new.message ≡ after_turns n (message lane) =
    c.put_front.ensures ∙ ap (take 55) block ∙ front-padded (after_turns n (message lane)) long in
    record {
      many = length-set c.loop-lane.messages lane c.put_front.new.message ∙ kept.many;
      done = λ j below. elim (cases_lt j lane) [
        | inl before ↦ get_or-set_other c.loop-lane.messages lane j c.put_front.new.message [] (omega arith) ∙ kept.done j before
        | inr here ↦
            let e : lane ≡ j = omega arith in
            subst (λ k. slice_index_or (slice_set c.loop-lane.messages lane c.put_front.new.message) k [] ≡ after_turns n (message k)) e
            (get_or-set_same c.loop-lane.messages lane c.put_front.new.message [] inside ∙ put)
      ];
      waits = λ j above. get_or-set_other c.loop-lane.messages lane j c.put_front.new.message [] (omega arith) ∙ kept.waits j (omega arith);
    }
