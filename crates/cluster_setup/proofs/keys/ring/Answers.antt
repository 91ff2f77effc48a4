use Rattle.std.proofs.Common.{◌≡◌, ◌++◌, ◌∷◌, [], List, ℕ, map, length, slice_get, sym, ap, ◌∙◌, rules, arith}
use Rattle.std.specs.List.{range_with_len}
use Rattle.std.proofs.lemmas.List.FromFn.{map-range_with_len_more, length-map-range_with_len}
use Rattle.key_ring.specs.Signers.{public_key_of}
use Rattle.cluster_setup.specs.Keys.{secret_of, ring_of}
use Rattle.cluster_setup.proofs.RingLemmas.{key_in_ring}
use Rattle.cluster_setup.proofs.keys.ring.Goals as goal
use Rattle.cluster_setup.proofs.keys.ring.Goals.{After-new-2}

pub loop-replica-preserved : goal.loop-replica-preserved
loop-replica-preserved c =
    let key : List ℕ = c.in_ok-public_key.field-0 in
    let f : ℕ → List ℕ = λ r. public_key_of (secret_of c.args.cluster.now r) in
    let grown : c.push.new.self.items ≡ c.loop-replica.keys.items ++ key ∷ [] = search rules in
    let is : key ≡ f c.loop-replica.replica = c.in_ok-public_key.ensures ∙ ap f c.new.ensures in
    grown ∙ ap (λ l. l ++ key ∷ []) c.loop-replica.invariant
    ∙ ap (λ k. map f (range_with_len 0 c.loop-replica.replica) ++ k ∷ []) is
    ∙ sym (map-range_with_len_more f 0 c.loop-replica.replica c.loop-replica.replica (omega arith))

whole : (c : After-new-2) → c.new-2.result ≡ ring_of c.args.cluster.now
whole c =
    let last : c.loop-replica.replica ≡ c.args.cluster.now.config.replicas =
    omega (arith, c.loop-replica-test.false, c.loop-replica.auto.replica-end) in
    c.new-2.ensures ∙ c.loop-replica.invariant ∙ ap (λ n. map (λ r. public_key_of (secret_of c.args.cluster.now r)) (range_with_len 0 n)) last

pub returns-clause-whole : goal.returns-clause-whole
returns-clause-whole c = whole c

pub returns-clause-keys : goal.returns-clause-keys
returns-clause-keys c = λ r lt. ap (λ ring. slice_get ring r) (whole c)
    ∙ key_in_ring c.args.cluster.now.config (secret_of c.args.cluster.now) r lt

pub returns-clause-len : goal.returns-clause-len
returns-clause-len c = ap length (whole c)
    ∙ length-map-range_with_len (λ r. public_key_of (secret_of c.args.cluster.now r)) 0 c.args.cluster.now.config.replicas
