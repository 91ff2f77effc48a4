use Rattle.std.proofs.Common.{◌≡◌, ℕ, ◌*◌, List, [], ◌∷◌, slice_index_or, arith}
use Rattle.sha2.specs.Sha256.{padded_message, word_at}
use Rattle.sha_lanes.specs.Lanes.{lane, lane_at}
use Rattle.sha_lanes.specs.Turns.{next_message}
use Rattle.sha_lanes.proofs.LaneLemmas.{below_sixteen}
use Rattle.sha_lanes.proofs.TurnLemmas.{words-next}
use Rattle.sha_lanes.proofs.turns.next_words.Goals as goal

pub returns-clause-next : goal.returns-clause-next
returns-clause-next c j low m whole bytes read state k below =
    let w : ℕ → List ℕ = λ k. slice_index_or c.args.words k [] in
    let made : List (List ℕ) = w 0 ∷ w 1 ∷ w 2 ∷ w 3 ∷ w 4 ∷ c.counted_up.result ∷ c.joined.result ∷ c.joined-2.result ∷ c.joined-3.result
    ∷ c.joined-4.result ∷ c.joined-5.result ∷ c.joined-6.result ∷ c.joined-7.result ∷ c.ended.result ∷ w 14 ∷ w 15 ∷ [] in
    let next = words-next m (lane j c.args.state) (λ k. lane_at c.args.words k j) _ _ _ _ _ _ _ _ _ whole bytes read state
    (c.counted_up.ensures j low) (c.joined.ensures j low) (c.joined-2.ensures j low) (c.joined-3.ensures j low) (c.joined-4.ensures j low)
    (c.joined-5.ensures j low) (c.joined-6.ensures j low) (c.joined-7.ensures j low) (c.ended.ensures j low) in
    let P : ℕ → Type 0 = λ n. lane_at made n j ≡ word_at (padded_message (next_message m)) (4 * n) in
    below_sixteen P (next 0 (omega arith)) (next 1 (omega arith)) (next 2 (omega arith)) (next 3 (omega arith)) (next 4 (omega arith))
    (next 5 (omega arith)) (next 6 (omega arith)) (next 7 (omega arith))
    (next 8 (omega arith)) (next 9 (omega arith)) (next 10 (omega arith)) (next 11 (omega arith)) (next 12 (omega arith))
    (next 13 (omega arith)) (next 14 (omega arith)) (next 15 (omega arith)) k below
