use Rattle.std.proofs.Common.{[]}
use Rattle.program.proofs.StreamLemmas.{behind_none, behind_some, fed_unfailed}
use Rattle.program.proofs.frame_stream.fault_behind.Goals as goal
use Rattle.program.proofs.frame_stream.fault_behind.Goals.{in-Ok, in-Err+in_ok-fault_of-in-Err}

pub fault_of-requires : goal.fault_of-requires
fault_of-requires c =
    let (bytes, fed) = c.requires in
    fed_unfailed c.args.frames.now.version c.args.frames.now.state bytes [] fed.0 c.in-Err.fault c.feed.new.self.state fed.1
    c.in-Err.ensures.fault

pub returns-clause-behind : goal.returns-clause-behind
returns-clause-behind c = λ bytes given leaves.
    elim c.match-feed.branch [
      | in-Ok w ↦ rw w.result-is (rw c.feed.ensures.version (behind_none _ _ _ bytes given _ leaves w.in-Ok.ensures.frames
          w.in-Ok.ensures.whole))
      | in-Err+in_ok-fault_of-in-Err w ↦
          rw w.result-is (rw c.feed.ensures.version (behind_some _ _ _ bytes given _ _ leaves w.in-Err.ensures.fault
          w.in_ok-fault_of-in-Err.ensures.fault))
    ]
