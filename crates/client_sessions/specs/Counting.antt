-- A stream, and the number of its failures.
use Rattle.std.specs.Prelude.{ℕ}
use Rattle.client_sessions.specs.declared.counted_stream.CountedStream.{CountedStream}

-- the stream itself
abbrev pub stream_of : {S : Type 0} → CountedStream S → S
stream_of counted = counted.stream

-- the number of calls that failed since counting began
abbrev pub failures_of : {S : Type 0} → CountedStream S → ℕ
failures_of counted = counted.failures.number
