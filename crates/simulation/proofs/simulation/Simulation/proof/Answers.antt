use Rattle.std.proofs.Common.{◌≡◌, ◌≤◌, take, sym, ap, subst, rules, ◌∙◌, arith}
use Rattle.std.proofs.lemmas.Grind.{common_steps}
use Rattle.std.specs.Prelude.{IsTrue}
use Rattle.ledger_model.specs.Validity.{ascends_within, signers_of}
use Rattle.simulation.specs.Playing.{proof_for}
use Rattle.simulation.proofs.Serving.{proof_ascends}
use Rattle.simulation.proofs.simulation.Simulation.proof.Goals as goal
use Rattle.ledger_model.specs.Rounds.{quorum}

pub returns-clause-ascend : goal.returns-clause-ascend
returns-clause-ascend g c =
    let same : c.config-config.result.now ≡ c.args.self.now.cluster.config =
    c.config-config.ensures ∙ ap (λ s. s.cluster.config) (c.self.view_is ∙ c.in_ok-reports.ensures.same) in
    let fits : c.config-config.result.now.replicas ≤ 256 = search rules in
    let items : c.truncate.new.self.items ≡ proof_for c.args.self.now c.args.lie.now c.args.source =
    c.truncate.ensures.items ∙ ap (λ n. take n c.in_ok-reports.reports.items)
    (c.from-count.ensures ∙ c.quorum.ensures ∙ ap (λ config. quorum config) same)
    ∙ ap (take (quorum c.args.self.now.cluster.config)) c.in_ok-reports.ensures.found in
    subst (λ rs. IsTrue (ascends_within 0 256 (signers_of rs))) (sym items)
    (proof_ascends c.args.self.now c.args.lie.now c.args.source (rw same at fits))

pub returns-then-len-count-clause-none : goal.returns-then-len-count-clause-none
returns-then-len-count-clause-none g c = grind (arith, common_steps)

pub returns-clause-spelled : goal.returns-clause-spelled
returns-clause-spelled g c = grind (arith, common_steps)
