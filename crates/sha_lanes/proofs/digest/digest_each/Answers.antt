use Rattle.std.proofs.Common.{◌≡◌, ℕ, List, ◌<◌, [], slice_index_or, ap, ◌∙◌, arith}
use Rattle.sha2.specs.Sha256.{compress, digest_bytes, padded_message, sha256}
use Rattle.sha_lanes.specs.Lanes.{lane}
use Rattle.sha_lanes.proofs.Blocks.{digest-one}
use Rattle.sha_lanes.proofs.LaneLemmas.{below_eight}
use Rattle.sha_lanes.proofs.digest.digest_each.Goals as goal

pub returns : goal.returns
returns c =
    let message : ℕ → List ℕ = λ j. slice_index_or c.args.messages.now j [] in
    let value : (j : ℕ) → j < 8 → digest_bytes (lane j c.compress-state.result) 8 ≡ sha256 (message j) = λ j low.
    ap (λ h. digest_bytes h 8) (c.compress-state.ensures j low (padded_message (message j))
    (λ k within. c.message_words.ensures.read j k low within)
    ∙ ap (λ h. compress h (padded_message (message j))) (c.initial_state.ensures j low))
    ∙ digest-one (message j) (c.message_words.ensures.whole j low) in
    below_eight _
    (c.digest_of.ensures ∙ value 0 (omega arith)) (c.digest_of-2.ensures ∙ value 1 (omega arith))
    (c.digest_of-3.ensures ∙ value 2 (omega arith)) (c.digest_of-4.ensures ∙ value 3 (omega arith))
    (c.digest_of-5.ensures ∙ value 4 (omega arith)) (c.digest_of-6.ensures ∙ value 5 (omega arith))
    (c.digest_of-7.ensures ∙ value 6 (omega arith)) (c.digest_of-8.ensures ∙ value 7 (omega arith))
