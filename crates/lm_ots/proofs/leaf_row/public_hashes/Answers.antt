use Rattle.std.proofs.Common.{◌≡◌, ℕ, List, ◌+◌, ◌*◌, ◌-◌, ◌<◌, [], length, map, take, drop, ap, ◌∙◌, arith, length-set}
use Rattle.ledger_model.specs.Signatures.{chain, chain_start, last_step, leaf_key, public_value}
use Rattle.lm_ots.specs.Parameters.{numbers_of}
use Rattle.std.specs.List.{range_with_len}
use Rattle.lm_ots.proofs.Coefs.{chains-most}
use Rattle.lm_ots.proofs.Leaves.{listed-at}
use Rattle.lm_ots.proofs.Writes.{set-more}
use Rattle.lm_ots.proofs.leaf_row.public_hashes.Goals as goal

pub loop-lane-preserved : goal.loop-lane-preserved
unfolding leaf_key
loop-lane-preserved c =
    let p = numbers_of c.args.params in
    let id = c.args.identifier.now in
    let kept = c.loop-lane.invariant in
    let lane = c.loop-lane.lane in
    let low : lane < 8 = c.loop-lane-test.true in
    let inside : lane < length c.loop-lane.keys = omega (arith, low, kept.many) in
    let q = c.args.first + lane in
    let end : ℕ → List ℕ = λ i. chain id q i 0 (last_step p) (chain_start id c.args.seed.now q i) in
    let most = chains-most c.args.params.width in
    let count : 67 * lane + c.from-chains.result - 67 * lane ≡ p.chains = omega (arith, c.from-chains.ensures, c.chains.ensures) in
    let ends : take p.chains (drop (67 * lane) c.all_ends-ends.result) ≡ map end (range_with_len 0 p.chains) =
    listed-at c.all_ends-ends.result end p.chains (67 * lane) (omega (arith, most, c.all_ends-ends.ensures.many))
    (λ i below. c.all_ends-ends.ensures.ends lane i low below) in
    let key : c.public_value.result ≡ leaf_key p id c.args.seed.now q =
    c.public_value.ensures ∙ ap (λ n. public_value id q (take n (drop (67 * lane) c.all_ends-ends.result))) count
    ∙ ap (public_value id q) ends in
    record {
      many = length-set c.loop-lane.keys lane c.public_value.result ∙ kept.many;
      keys = set-more (λ k key. key ≡ leaf_key p id c.args.seed.now (c.args.first + k)) c.loop-lane.keys lane c.public_value.result []
          inside kept.keys key;
    }
