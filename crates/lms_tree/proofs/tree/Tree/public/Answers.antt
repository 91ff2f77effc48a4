use Rattle.std.proofs.Common.{◌∙◌, ◌++◌, ◌<◌, length, [], ap, arith}
use Rattle.std.specs.Int.{w32, to_be_bytes}
use Rattle.std.proofs.lemmas.List.{get_or_read}
use Rattle.std.proofs.Math.Pow.{pow_mono}
use Rattle.ledger_model.specs.Signatures.{public_key}
use Rattle.lm_ots.specs.Parameters.{numbers_of}
use Rattle.lms_tree.specs.Trees.{Secret}
use Rattle.lms_tree.proofs.tree.Tree.public.Goals as goal

pub returns : goal.returns
unfolding public_key
returns c =
    let t = c.self.inside in
    let n = numbers_of t.params in
    let kept = c.self.invariant.1 in
    let inside : 1 < length t.nodes.items = omega (arith, kept.whole, pow_mono {i = 0} {j = n.height} (omega arith)) in
    let root = get_or_read t.nodes.items 1 c.index.result.now inside c.index.ensures []
    ∙ kept.hashes n.height 0 1 (omega arith) (omega arith) (omega arith) (omega arith) in
    c.new.ensures ∙ ap (λ x. to_be_bytes w32 n.lms_code ++ to_be_bytes w32 n.ots_code ++ t.identifier ++ x) root
    ∙ ap (λ (s : Secret). public_key (numbers_of s.params) s.identifier s.seed) c.self.view_is
