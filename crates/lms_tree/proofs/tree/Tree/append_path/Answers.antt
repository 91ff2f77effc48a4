use Rattle.std.proofs.Common.{◌≡◌, ◌∙◌, ◌+◌, ◌-◌, ◌^◌, ◌<◌, ◌++◌, length, [], refl, ap, subst, sym, get_or, arith}
use Rattle.std.proofs.lemmas.Slice.{pushed}
use Rattle.std.proofs.lemmas.List.{get_or_read}
use Rattle.ledger_model.specs.Signatures.{path, sibling}
use Rattle.lm_ots.specs.Parameters.{numbers_of, levels_of}
use Rattle.lms_tree.specs.Trees.{Secret, KeepsNodes}
use Rattle.lms_tree.proofs.NodeTable.{beside}
use Rattle.lms_tree.proofs.Climb.{path-next, path-end, half-low, half-high}
use Rattle.lms_tree.proofs.tree.Tree.append_path.Goals as goal

pub index-requires : goal.index-requires
index-requires c =
    let at = beside c.levels-levels.result c.loop.counter c.loop.number c.loop-test.true c.loop.invariant.low c.loop.invariant.high in
    let whole = c.self.invariant.1.whole in
    let height = ap (λ n. 2 ^ n) c.levels-levels.ensures in
    omega (arith, c.sibling.ensures, at.inside)

pub loop-preserved : goal.loop-preserved
loop-preserved c =
    let s = c.args.self.now in
    let items = c.self.inside.nodes.items in
    let levels = c.levels-levels.result in
    let level = c.loop.counter in
    let number = c.loop.number in
    let kept_by = c.loop.invariant in
    let P : Secret → Type 0 = λ t. KeepsNodes (numbers_of t.params) t.identifier t.seed 1 items in
    let kept : KeepsNodes (numbers_of s.params) s.identifier s.seed 1 items = subst P c.self.view_is c.self.invariant.1 in
    let height : levels ≡ (numbers_of s.params).height =
    c.levels-levels.ensures ∙ ap (λ (t : Secret). levels_of t.params.height) c.self.view_is in
    let at = beside levels level number c.loop-test.true kept_by.low kept_by.high in
    let inside : c.sibling.result < length items = omega (arith, c.sibling.ensures, at.inside, kept.whole, ap (λ n. 2 ^ n) height) in
    let hash = get_or_read items c.sibling.result c.index.result.now inside c.index.ensures []
    ∙ ap (λ k. get_or items k []) c.sibling.ensures
    ∙ kept.hashes level (levels - level) (sibling number) (omega arith) at.low at.high at.some in
    record {
      whole = path-next (numbers_of s.params) s.identifier s.seed levels level number c.loop.bytes.items c.extend_from_slice.new.self.items
          c.index.result.now c.loop-test.true
          (pushed c.index.result.now refl c.in_ok-extend_from_slice.was c.extend_from_slice.ensures.items) hash
          ∙ kept_by.whole;
      low = half-low levels level number c.loop-test.true kept_by.low;
      high = half-high levels level number c.loop-test.true kept_by.high;
    }

pub returns : goal.returns
returns c =
    let s = c.args.self.now in
    let levels = c.levels-levels.result in
    let height : levels ≡ (numbers_of s.params).height =
    c.levels-levels.ensures ∙ ap (λ (t : Secret). levels_of t.params.height) c.self.view_is in
    sym (path-end (numbers_of s.params) s.identifier s.seed levels c.loop.counter c.loop.number c.loop.bytes.items (omega arith))
    ∙ c.loop.invariant.whole
    ∙ ap (λ n. c.args.bytes.now.items ++ path (numbers_of s.params) s.identifier s.seed n 0 (2 ^ n + c.args.leaf)) height
