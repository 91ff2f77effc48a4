use Rattle.std.proofs.Common.{◌*◌, sym, ap, ◌∙◌, arith}
use Rattle.ledger_model.specs.Signatures.{root_above}
use Rattle.lm_ots.proofs.Parts.{part-slice}
use Rattle.lms_tree.proofs.Climb.{root_above-next, root_above-end}
use Rattle.lms_tree.proofs.verification.root_above.Goals as goal

pub loop-level-preserved : goal.loop-level-preserved
loop-level-preserved c =
    root_above-next c.args.identifier.now c.args.path.now c.levels-levels.result c.loop-level.level c.loop-level.number c.loop-level.hash _
    c.parent_hash-hash.result c.loop-level-test.true
    (part-slice c.args.path.now c.loop-level.level _ _ (ap (λ n. 32 * n) c.from-start.ensures) (omega arith)) c.parent_hash-hash.ensures
    ∙ c.loop-level.invariant

pub returns : goal.returns
returns c =
    sym (root_above-end c.args.identifier.now c.args.path.now c.levels-levels.result c.loop-level.level c.loop-level.number
    c.loop-level.hash (omega arith))
    ∙ c.loop-level.invariant
    ∙ ap (λ n. root_above c.args.identifier.now c.args.path.now n 0 c.args.leaf_number c.args.leaf_hash) c.levels-levels.ensures
