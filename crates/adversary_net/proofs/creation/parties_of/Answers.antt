use Rattle.std.proofs.Common.{◌≡◌, ℕ, ◌+◌, ◌-◌, ◌++◌, ◌∷◌, [], false, cond, length, map, refl, sym, ap, subst, ◌∙◌, rules, arith}
use Rattle.std.specs.List.{range_with_len}
use Rattle.std.specs.Vec.Iter.{into_iter_items}
use Rattle.std.proofs.lemmas.List.FromFn.{map-range_with_len_more}
use Rattle.cluster_setup.specs.Keys.{secret_of, unused}
use Rattle.cluster_setup.proofs.SignersLeft.{all_left, some_left, one_taken}
use Rattle.adversary_net.specs.Openings.{is_liar, correct_from, new_party, IsSupply}
use Rattle.adversary_net.proofs.Beginning.{correct_left}
use Rattle.adversary_net.proofs.creation.parties_of.Goals as goal

pub loop-replica-init : goal.loop-replica-init
loop-replica-init g c =
    let n = c.args.cluster.now.config.replicas in
    let whole : n ≡ n - 0 = omega arith in
    record {
      parties = search rules;
      signers = c.into_iter-signers.ensures.rest ∙ c.requires.signers ∙ all_left c.args.cluster.now;
      supply = subst (λ k. IsSupply (g.A.Application.meaning) g.A.Application.machine c.args.cluster.now.config
          (length (correct_from c.args.liars.now 0 k))
          (into_iter_items c.args.supply.apps) (into_iter_items c.args.supply.randoms)) whole c.requires.supply;
    }

pub unreachable-requires : goal.unreachable-requires
unreachable-requires g c =
    let some = some_left c.args.cluster.now c.loop-replica.replica (into_iter_items c.loop-replica.signers) c.loop-replica-test.true
    c.loop-replica.invariant.signers in
    omega (arith, some, c.in_default.ensures.cases.0, c.loop-replica.signers.rest.ok)

pub party_of-requires-clause-signer : goal.party_of-requires-clause-signer
party_of-requires-clause-signer g c =
    let taken = one_taken c.args.cluster.now c.loop-replica.replica (into_iter_items c.loop-replica.signers) c.in-Some.signer
    (into_iter_items c.next.new.self) c.loop-replica-test.true c.loop-replica.invariant.signers c.in-Some.ensures.cases.0 in
    taken.0 ∙ ap (λ k. unused (secret_of c.args.cluster.now k)) (sym c.new-id.ensures)

pub party_of-requires-clause-some : goal.party_of-requires-clause-some
party_of-requires-clause-some g c = λ honest.
    let r = c.loop-replica.replica in
    let n = c.args.cluster.now.config.replicas in
    let here : is_liar c.args.liars.now r ≡ false = ap (is_liar c.args.liars.now) (sym c.new-id.ensures) ∙ honest in
    let left = correct_left c.args.liars.now r n c.loop-replica-test.true in
    let one : ◌≡◌ {A = ℕ} (cond (is_liar c.args.liars.now r) 0 1) 1 = rw here refl in
    omega (arith, c.loop-replica.invariant.supply.an_app, left, one)

pub loop-replica-preserved : goal.loop-replica-preserved
loop-replica-preserved g c =
    let r = c.loop-replica.replica in
    let n = c.args.cluster.now.config.replicas in
    let was = c.loop-replica.invariant in
    let taken = one_taken c.args.cluster.now r (into_iter_items c.loop-replica.signers) c.in-Some.signer (into_iter_items c.next.new.self)
    c.loop-replica-test.true was.signers c.in-Some.ensures.cases.0 in
    let f = new_party (g.A.Application.meaning) c.args.cluster.now.config c.args.ring.now (secret_of c.args.cluster.now) c.args.liars.now in
    let is : c.in_ok-party.party ≡ f r = c.in_ok-party.ensures.party ∙ ap f c.new-id.ensures in
    let grown : c.push.new.self.items ≡ c.loop-replica.parties.items ++ c.in_ok-party.party ∷ [] = search rules in
    let count = correct_left c.args.liars.now r n c.loop-replica-test.true in
    let fewer : length (into_iter_items c.loop-replica.supply.apps) - cond (is_liar c.args.liars.now c.new-id.result) 0 1
    ≡ length (correct_from c.args.liars.now (r + 1) (n - (r + 1))) =
    ap (λ k. length (into_iter_items c.loop-replica.supply.apps) - cond (is_liar c.args.liars.now k) 0 1) c.new-id.ensures
    ∙ omega (arith, was.supply.an_app, count) in
    record {
      parties = grown ∙ ap (λ l. l ++ c.in_ok-party.party ∷ []) was.parties ∙ ap (λ p. map f (range_with_len 0 r) ++ p ∷ []) is
          ∙ sym (map-range_with_len_more f 0 r r (omega arith));
      signers = taken.1;
      supply = subst (λ k. IsSupply (g.A.Application.meaning) g.A.Application.machine c.args.cluster.now.config k
          (into_iter_items c.party_of.new.supply.apps)
          (into_iter_items c.party_of.new.supply.randoms)) fewer c.in_ok-party.ensures.supply_left;
    }

pub returns : goal.returns
returns g c =
    let n : c.loop-replica.replica ≡ c.args.cluster.now.config.replicas = omega arith in
    c.loop-replica.invariant.parties
    ∙ ap (λ k. map (new_party (g.A.Application.meaning) c.args.cluster.now.config c.args.ring.now
    (secret_of c.args.cluster.now) c.args.liars.now)
    (range_with_len 0 k)) n
