use Rattle.std.proofs.Common.{◌≡◌, ◌++◌, ◌∷◌, [], map, sym, ap, ◌∙◌, rules, arith}
use Rattle.std.specs.List.{range_with_len}
use Rattle.std.proofs.lemmas.List.FromFn.{map-range_with_len_more}
use Rattle.key_ring.specs.Signers.{SignerView}
use Rattle.cluster_setup.specs.Keys.{secret_of, unused}
use Rattle.cluster_setup.proofs.all.signers.Goals as goal

pub loop-replica-preserved : goal.loop-replica-preserved
loop-replica-preserved c =
    let key : SignerView = c.in_ok-key_pair.field-0 in
    let grown : c.push.new.self.items ≡ c.loop-replica.signers.items ++ key ∷ [] = search rules in
    let is : key ≡ unused (secret_of c.args.cluster.now c.loop-replica.replica) =
    c.in_ok-key_pair.ensures ∙ ap (λ r. unused (secret_of c.args.cluster.now r)) c.new.ensures in
    grown ∙ ap (λ l. l ++ key ∷ []) c.loop-replica.invariant
    ∙ ap (λ k. map (λ r. unused (secret_of c.args.cluster.now r)) (range_with_len 0 c.loop-replica.replica) ++ k ∷ []) is
    ∙ sym (map-range_with_len_more (λ r. unused (secret_of c.args.cluster.now r)) 0 c.loop-replica.replica c.loop-replica.replica
    (omega arith))
