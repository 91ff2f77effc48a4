use Rattle.std.proofs.Common.{◌≡◌, ℕ, ◌+◌, ◌-◌, ◌*◌, subst, ap, ◌∙◌, [], get_or, arith, rules}
use Rattle.std.proofs.lemmas.List.{get_or_read}
use Rattle.ledger_model.specs.Signatures.{node_hash}
use Rattle.lm_ots.specs.Parameters.{numbers_of}
use Rattle.lms_tree.specs.Trees.{KeepsNodes}
use Rattle.lms_tree.proofs.NodeTable.{leaves-more, whole-rows, keeps-leaves, keeps-more}
use Rattle.lms_tree.proofs.tree.Tree.build.Goals as goal

pub loop-row-preserved : goal.loop-row-preserved
loop-row-preserved c = record {
  long = c.put_leaves.ensures.many ∙ c.loop-row.invariant.long;
  hashes = λ q below. leaves-more (numbers_of c.args.params) c.args.identifier c.args.seed c.leaves-leaves.result (8 * c.loop-row.row)
      c.loop-row.nodes.items c.put_leaves.new.nodes.items c.public_hashes-keys.result
      c.leaves-leaves.ensures c.loop-row.invariant.hashes c.put_leaves.ensures.put c.public_hashes-keys.ensures c.put_leaves.ensures.others
      q (omega arith);
}

pub loop-number-init : goal.loop-number-init
loop-number-init c =
    keeps-leaves (numbers_of c.args.params) c.args.identifier c.args.seed c.leaves-leaves.result c.loop-row.nodes.items
    c.leaves-leaves.ensures c.loop-row.invariant.long
    (λ q below. c.loop-row.invariant.hashes q (omega (arith, whole-rows c.args.params.height, c.leaves-leaves.ensures)))

pub loop-number-preserved : goal.loop-number-preserved
loop-number-preserved c =
    let r = c.loop-number.number - 1 in
    let nodes = c.loop-number.nodes.items in
    let on : c.loop-number.number ≡ r + 1 = omega arith in
    let P : ℕ → Type 0 = λ k. KeepsNodes (numbers_of c.args.params) c.args.identifier c.args.seed k nodes in
    let whole = c.loop-number.invariant.whole in
    let left = get_or_read nodes (2 * r) _ (omega (arith, whole)) c.index.ensures [] in
    let right = get_or_read nodes (2 * r + 1) _ (omega (arith, whole)) c.index-in-loop-number.ensures [] in
    keeps-more (numbers_of c.args.params) c.args.identifier c.args.seed r nodes c.node_hash.result (omega arith)
    (omega (arith, c.leaves-leaves.ensures)) (subst P on c.loop-number.invariant)
    (c.node_hash.ensures ∙ ap (λ x. node_hash c.args.identifier r x c.index-in-loop-number.result.now) left
    ∙ ap (λ y. node_hash c.args.identifier r (get_or nodes (2 * r) []) y) right)

pub invariant_of-result : goal.invariant_of-result
invariant_of-result c = (
  search rules,
  record {
    whole = c.loop-number.invariant.whole;
    hashes = λ n d r level low high beyond. c.loop-number.invariant.hashes n d r level low high (omega arith);
  },
)
