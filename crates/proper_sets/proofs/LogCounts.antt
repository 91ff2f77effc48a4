-- Replicas that reported in a phase, and reports that were read in it.
use Rattle.std.proofs.Common.{◌≡◌, ℕ, ◌+◌, Bool, true, false, not, ◌&&◌, ◌||◌, inl, inr, List, [], ◌∷◌, refl, sym, ap, subst, ◌∙◌, arith}
use Rattle.std.specs.Prelude.{map, nat_eq, ◌==◌}
use Rattle.std.proofs.lemmas.Bool.{cases_Bool, eqb-true}
use Rattle.std.proofs.Math.Bool.{and-false}
use Rattle.ledger_model.specs.declared.config.Config.{Config}
use Rattle.ledger_model.specs.declared.statement.Report.{Report}
use Rattle.ledger_model.specs.Notes.{Note}
use Rattle.ledger_model.specs.Rounds.{number_of}
use Rattle.ledger_model.specs.Validity.{ascends_within}
use Rattle.ledger_model.specs.Proper.{others_reported}
use Rattle.tally.specs.Readings.{AreReadIn}
use Rattle.proper_sets.specs.Propriety.{others_where}
use Rattle.tally.proofs.Tallying.{of_number, counted_once}

and_or : (a b c : Bool) → (a && (b || c)) ≡ ((a && b) || (a && c))
and_or true b c = refl
and_or false b c = refl

-- a test of the number stands for a test of those that have it
number_tested : (q : ℕ → Bool) (test : Report → Bool) (r : ℕ) (reports : List Report)
    → (q r && of_number (λ p. p.signer) test reports r) ≡ of_number (λ p. p.signer) (λ p. q p.signer && test p) reports r
number_tested q test r [] = and-false (q r)
number_tested q test r (p ∷ ps) =
    let rest = number_tested q test r ps in
    elim (cases_Bool (nat_eq p.signer r)) [
      | inl here ↦
          let is : p.signer ≡ r = eqb-true p.signer r here in
          rw here (and_or (q r) (test p) (of_number (λ x. x.signer) test ps r)
          ∙ ap (λ s. (q s && test p) || (q r && of_number (λ x. x.signer) test ps r)) (sym is)
          ∙ ap (λ b. (q p.signer && test p) || b) rest)
      | inr other ↦ rw other rest
    ]

-- those others that reported what passes a test in a phase
pub others_are : (config : Config) (id : ℕ) (log : List Note) (k : ℕ) (reports : List Report) → AreReadIn config log k reports
    → (test : Report → Bool)
    → others_reported config id log k test ≡ others_where id test reports
others_are config id log k reports read test =
    let end : config.replicas ≡ 0 + config.replicas = omega arith in
    (λ i. number_of config (λ r. not (r == id) && read.same (λ p. (p.signer == r) && test p) i))
    ∙ (λ i. number_of config (λ r. number_tested (λ s. not (s == id)) test r reports i))
    ∙ counted_once (λ p. p.signer) (λ p. not (p.signer == id) && test p) config.replicas 0 reports
    (subst (λ e. ascends_within 0 e (map (λ p. p.signer) reports) ≡ true) end read.signers)
