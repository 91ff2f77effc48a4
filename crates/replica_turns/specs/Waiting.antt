-- The frames that wait for a replica.
use Rattle.std.specs.Prelude.{ℕ, List}

-- the frames for its next turns, and those that wait for the next round
pub record WaitingFramesView : Type 0 where
  pub due : List (List ℕ)
  pub early : List (List ℕ)

-- the most frames of one turn, and the most that are taken in before it
abbrev pub max_at_once : ℕ
max_at_once = 64

-- the most frames that wait for the next round
abbrev pub max_early : ℕ
max_early = 1024

-- the most frames that are due: those that were taken in, and those that waited for the round
abbrev pub max_due_frames : ℕ
max_due_frames = 1088

-- the most frames in all
abbrev pub max_waiting : ℕ
max_waiting = 2112
