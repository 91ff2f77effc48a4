-- The reports that serve in the proof of a lie's lock: whose they are, and that those of all replicas ascend.
use Rattle.std.proofs.Common.{◌≡◌, ℕ, zero, suc, ◌+◌, ◌≤◌, Bool, true, false, List, [], ◌∷◌, map, refl, sym, subst, arith}
use Rattle.std.specs.Prelude.{Option, Some, None, filter, slice_get}
use Rattle.std.specs.List.{filter_map, cons_option, range_with_len}
use Rattle.std.proofs.lemmas.Bool.{and_parts, eqb-true}
use Rattle.ledger_model.specs.declared.statement.SignedReport.{SignedReport}
use Rattle.ledger_model.specs.Validity.{ascends_within, signers_of}
use Rattle.ledger_model.proofs.Counting.{ascends_from, ascends_lower, take-within}
use Rattle.scenario_texts.specs.declared.command.Lie.{Lie}
use Rattle.simulation.specs.Lies.{first_serving, report_in, serves}
use Rattle.simulation.specs.Playing.{SimulationView, all_serving, report_sources, proof_for, serving}
use Rattle.ledger_model.specs.Rounds.{quorum}

-- the first that passes a test passes it
first_passes : {X : Type 0} (p : X → Bool) (xs : List X) (x : X) → slice_get (filter p xs) 0 ≡ Some x → p x ≡ true
first_passes p [] x is = absurd cc
first_passes p (y ∷ ys) x is = by (p y) refl is (first_passes p ys x)
  where
    by : (b : Bool) → p y ≡ b → slice_get (filter p (y ∷ ys)) 0 ≡ Some x → (slice_get (filter p ys) 0 ≡ Some x → p x ≡ true) → p x ≡ true
    by true passes is later =
        let first : y ≡ x = (let here = rw passes at is in cc) in
        subst (λ z. p z ≡ true) first passes
    by false passes is later = later (rw passes at is)

-- what serves for a replica is its report
pub serving_signer : (p : SimulationView) (l : Lie) (k r : ℕ) (s : SignedReport) → serving p l k r ≡ Some s → s.report.signer ≡ r
unfolding first_serving
serving_signer p l k r s is = eqb-true _ _
    (and_parts _ _ (and_parts _ _ (and_parts _ _ (and_parts _ _
    (first_passes (serves l k r) (filter_map report_in (report_sources p r)) s is)).0).0).0).0

-- what is found at ascending numbers, and has them as its keys, ascends
pub found-within : {X : Type 0} (key : X → ℕ) (f : ℕ → Option X) → ((r : ℕ) (x : X) → f r ≡ Some x → key x ≡ r) → (low n high : ℕ)
    → low + n ≤ high
    → ascends_within low high (map key (filter_map f (range_with_len low n))) ≡ true
found-within key f named low zero high fits = refl
found-within {X = X} key f named low (suc n) high fits = by (f low) refl (found-within key f named (low + 1) n high (omega (arith, fits)))
  where
    by : (o : Option X) → f low ≡ o → ascends_within (low + 1) high (map key (filter_map f (range_with_len (low + 1) n))) ≡ true
        → ascends_within low high (map key (cons_option o (filter_map f (range_with_len (low + 1) n)))) ≡ true
    by None is rest = ascends_lower low (low + 1) high _ (omega arith) rest
    by (Some x) is rest =
        let same = named low x is in
        ascends_from low high (key x) _ (omega (arith, same)) (omega (arith, same, fits))
        (subst (λ k. ascends_within (k + 1) high (map key (filter_map f (range_with_len (low + 1) n))) ≡ true) (sym same) rest)

-- the signers of a lying lock's proof ascend
pub proof_ascends : (p : SimulationView) (l : Lie) (k : ℕ) → p.cluster.config.replicas ≤ 256
    → ascends_within 0 256 (signers_of (proof_for p l k)) ≡ true
proof_ascends p l k fits =
    take-within (λ (s : SignedReport). s.report.signer) (quorum p.cluster.config) 0 256 (all_serving p l k)
    (found-within (λ (s : SignedReport). s.report.signer) (serving p l k) (serving_signer p l k) 0 p.cluster.config.replicas 256
    (omega (arith, fits)))
