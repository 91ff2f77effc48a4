-- Where things are in a picture, in pixels. Nothing is claimed of how a picture looks.
use Rattle.std.specs.Prelude.{ℕ, ◌+◌, ◌-◌, ◌*◌, ◌/◌, ◌%◌, min, max, List, [], ◌∷◌, Option, Some, None, unwrap_or}
use Rattle.ledger_model.specs.Limits.{last_round}
use Rattle.ledger_model.specs.declared.statement.Statement.{Statement}
use Rattle.ledger_model.specs.Logs.{height_of as height_in}
use Rattle.run_picture.specs.declared.part.Moment.{Moment}
use Rattle.run_picture.specs.declared.picture.Picture.{Picture}
use Rattle.run_picture.specs.declared.sent_frames.SentFrame.{SentFrame}
use Rattle.run_picture.specs.declared.layout.Layout.{Layout}

-- the number of rounds that the furthest replica opened, and `most` if that is more
abbrev pub most_from : ℕ → List (Option ℕ) → ℕ
most_from most [] = most
most_from most (o ∷ os) = most_from (max (unwrap_or o 0) most) os

-- the number of rounds that the furthest replica opened
abbrev pub most_rounds : List (Option ℕ) → ℕ
most_rounds rounds = most_from 0 rounds

-- the rounds of the part that some replica opened, and the replicas
abbrev pub layout_of : Picture → Layout
layout_of p = record {
  first = p.part.first;
  last = min (min p.part.last last_round) (most_rounds p.rounds.items);
  opened = most_rounds p.rounds.items;
  config = p.config;
}

-- where round c begins
abbrev pub column_x : Layout → ℕ → ℕ
column_x l c = 104 + 84 * (c - l.first)

-- where replica r's row begins
abbrev pub row_y : ℕ → ℕ
row_y r = 64 + 120 * r

-- where height h is in replica r's row
abbrev pub lane_y : ℕ → ℕ → ℕ
lane_y r h = row_y r + 18 + 18 * (h % 5)

-- where what is about a statement is in replica r's row
abbrev pub statement_y : ℕ → Option Statement → ℕ
statement_y r (Some s) = lane_y r (height_in s)
statement_y r None = row_y r + 6 * 18

-- the place in a round of what comes from replica r
abbrev pub slot_x : ℕ → ℕ
slot_x r = 12 * (r % 4) + 3 * (r / 4 % 4)

-- where a frame begins as its sender sends it
abbrev pub start_x : Layout → SentFrame → ℕ
start_x l s = column_x l s.at.round + 8 + 3 * (s.place % 4)

-- where a frame of replica r ends as it is delivered
abbrev pub end_x : Layout → Moment → ℕ → ℕ
end_x l m r = column_x l m.round + 28 + slot_x r + 2 * (m.entry % 3)

-- the picture's width, where its last row ends, and its height
abbrev pub width_of : Layout → ℕ
width_of l = max (column_x l l.last + 84 + 16) 850

abbrev pub bottom_of : Layout → ℕ
bottom_of l = 64 + 120 * l.config.replicas

abbrev pub picture_height : Layout → ℕ
picture_height l = bottom_of l + 60
