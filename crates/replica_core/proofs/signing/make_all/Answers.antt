use Rattle.std.proofs.Common.{arith}
use Rattle.std.proofs.lemmas.Grind.{common_steps}
use Rattle.std.proofs.lemmas.List.{map-append}
use Rattle.replica_core.proofs.SignedPlans.{leaf_there, signs_next, most_next}
use Rattle.replica_core.proofs.signing.make_all.Goals as goal

pub make-requires : goal.make-requires
make-requires c = record { leaf = leaf_there (rw c.in-Some.ensures.steps.0 at c.loop-spelled.invariant) c.requires.leaves }

pub returns-in_err-make-clause-most : goal.returns-in_err-make-clause-most
returns-in_err-make-clause-most c = most_next (rw c.in-Some.ensures.steps.0 at c.loop-spelled.invariant) c.make.ensures.used

pub loop-spelled-preserved : goal.loop-spelled-preserved
loop-spelled-preserved c =
    let done = c.in_ok-make.ensures in
    rw (c.in_ok-push.ensures.items, map-append)
    (signs_next (rw c.in-Some.ensures.steps.0 at c.loop-spelled.invariant) c.in_ok-make.field-0 done.ending done.signs done.verified
    done.frame done.used)

pub returns-in_err-push-clause-most : goal.returns-in_err-push-clause-most
returns-in_err-push-clause-most c = most_next (rw c.in-Some.ensures.steps.0 at c.loop-spelled.invariant) c.make.ensures.used

pub returns-clause-endings : goal.returns-clause-endings
returns-clause-endings c = grind (arith, common_steps)

pub returns-clause-most : goal.returns-clause-most
returns-clause-most c = grind (arith, common_steps)

pub returns-clause-signs : goal.returns-clause-signs
returns-clause-signs c = grind (arith, common_steps)

pub returns-clause-used : goal.returns-clause-used
returns-clause-used c = grind (arith, common_steps)
