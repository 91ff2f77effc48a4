use Rattle.std.proofs.Common.{arith, rules, ◌++◌, take}
use Rattle.std.proofs.lemmas.Grind.{common_steps}
use Rattle.std.proofs.KnownBytes.{Appends-trans}
use Rattle.client_sessions.proofs.transfers.write_all.Goals as goal
use Rattle.byte_streams.proofs.WritingLemmas.{more_written}

pub loop-left-preserved : goal.loop-left-preserved
loop-left-preserved g c =
    let (done, kept) = c.loop-left.invariant.0 in
    let n = c.in_ok-count.count in (
      (
        done ++ take n c.loop-left.left.now,
        (more_written _ done c.loop-left.left.now n kept.0, Appends-trans _ _ _ _ _ kept.1 c.in_ok-count.ensures.bytes),
      ),
      search rules,
    )

pub returns-clause-written : goal.returns-clause-written
returns-clause-written g c = grind (arith, common_steps)
