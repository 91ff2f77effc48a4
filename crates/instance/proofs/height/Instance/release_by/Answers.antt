use Rattle.std.proofs.Common.{rules}
use Rattle.instance.proofs.SpelledRows.{drops_locks}
use Rattle.instance.proofs.height.Instance.release_by.Goals as goal

pub invariant_of-self : goal.invariant_of-self
invariant_of-self c =
    let i = c.self.invariant in
    (i.0, i.1, i.2, i.3, drops_locks i.4 c.phase_of.result c.args.lock.now.lock _ c.release.ensures)

pub returns : goal.returns
returns c = search rules
