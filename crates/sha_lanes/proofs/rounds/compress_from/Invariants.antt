-- after 16 rounds a turn, each lane has the rounds of its block
use Rattle.std.proofs.Common.{◌≡◌, ℕ, ◌<◌, ◌*◌, List}
use Rattle.sha2.specs.Sha256.{IsRoundsAt, rounds, schedule, word_at}
use Rattle.sha_lanes.specs.Lanes.{lane, lane_at, words}
use Rattle.sha_lanes.proofs.rounds.compress_from.Given as goal

abbrev pub invariant-schedule : goal.invariant-schedule
invariant-schedule l = (j : ℕ) → j < 8 → (b : List ℕ) → ((k : ℕ) → k < 16 → lane_at l.fn.block k j ≡ word_at b (4 * k))
    → lane j l.fn.begun ≡ rounds (lane j l.state) (schedule b 48) 5
    → IsRoundsAt b (lane j l.state) (words j l.w) (lane j l.v) (16 * l.turn)
