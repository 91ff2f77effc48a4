-- When rounds end.
use Rattle.std.specs.Prelude.{ℕ, ◌+◌, ◌-◌, ◌*◌, ◌/◌}
use Rattle.round_pacer.specs.declared.schedule.Schedule.{Schedule}

-- the time of the end of round r
abbrev pub due_at : ℕ → ℕ → ℕ → ℕ
due_at start base r = start + r * base + r * (r + 1) / 2

-- the most round ends that one call counts
abbrev pub max_due : ℕ
max_due = 1024

-- the moment of the end of round r by a schedule that began anew at the end of a round; that moment, of each round up to that one
abbrev pub ends_at : Schedule → ℕ → ℕ
ends_at s r = due_at s.moment_ms s.base_ms (r - s.round)
