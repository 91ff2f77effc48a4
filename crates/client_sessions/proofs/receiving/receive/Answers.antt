use Rattle.std.proofs.Common.{rules}
use Rattle.byte_streams.proofs.Faults.{on_error}
use Rattle.client_sessions.proofs.PrefixLemmas.{broken_off, cut_off, whole}
use Rattle.client_sessions.proofs.receiving.receive.Goals as goal

pub returns-in_err-count-2-clause-received : goal.returns-in_err-count-2-clause-received
returns-in_err-count-2-clause-received g c = on_error _ _ c.from_residual-in_err-count-2.ensures.0
    (broken_off _ _ _ _ _ c.in_ok-count.ensures.filled (search rules) c.if-count-lt2.false c.length_of-len.result
    c.length_of-len.ensures.length _ c.in_err-count-2.ensures.filled (search rules))

pub returns-then-count-len-clause-received : goal.returns-then-count-len-clause-received
returns-then-count-len-clause-received g c =
    cut_off _ _ _ _ _ c.in_ok-count.ensures.filled (search rules) c.if-count-lt2.false c.length_of-len.result
    c.length_of-len.ensures.length _ _ c.in_ok-count-2.ensures.filled (search rules) c.if-count-len.true

pub returns-clause-received : goal.returns-clause-received
returns-clause-received g c = whole _ _ _ _ _ c.in_ok-count.ensures.filled (search rules) c.if-count-lt2.false c.length_of-len.result
    c.length_of-len.ensures.length _ _ _ c.length_of-len.ensures.bytes c.in_ok-count-2.ensures.filled (search rules) c.if-count-len.false
    c.length_of-len.ensures.bound
