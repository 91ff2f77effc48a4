-- the first bytes of the buffer were read, and are less than a head
use Rattle.std.proofs.Common.{◌≡◌, ◌-◌, ◌≤◌, length, take}
use Rattle.std.specs.Io.KnownBytes.{Consumes}
use Rattle.http_sessions.specs.Hearing.{IsPart}
use Rattle.http_sessions.proofs.hearing.hear.Given as goal

abbrev pub invariant-loop-count : goal.invariant-loop-count
invariant-loop-count g l = record {
  within : l.count ≤ length l.buffer;
  same : length l.buffer ≡ length l.initial.buffer;
  read : Consumes (g.R.SessionReader.remaining l.initial.input) (g.R.SessionReader.remaining l.input) (take l.count l.buffer);
  part : IsPart (take l.count l.buffer);
  counted : g.R.SessionReader.failures l.input ≡ g.R.SessionReader.failures l.initial.input;
}

abbrev pub decreases-loop-count : goal.decreases-loop-count
decreases-loop-count g l = length l.initial.buffer - l.count
