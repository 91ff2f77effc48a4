use Rattle.std.proofs.Common.{◌≡◌, length, sym, ap, ◌∙◌}
use Rattle.simulation.specs.Lies.{lying_lock}
use Rattle.simulation.specs.Playing.{proof_for}
use Rattle.simulation.proofs.PlayLemmas.{on_ok, lock_can}
use Rattle.simulation.proofs.simulation.Simulation.tell_lock.Goals as goal
use Rattle.ledger_model.specs.Rounds.{quorum}

pub returns-clause-done : goal.returns-clause-done
returns-clause-done g c =
    let proof : c.in-Some.proof.items ≡ proof_for c.args.self.now c.args.lie.now c.args.source =
    rw c.in-Some.is at c.in_ok-proof.ensures.proof in
    let count : length c.in-Some.proof.items ≡ quorum c.args.self.now.cluster.config =
    rw c.in-Some.is at c.in_ok-proof.ensures.count in
    let lock : c.in_ok-lock.lock ≡ lying_lock c.args.lie.now (proof_for c.args.self.now c.args.lie.now c.args.source) =
    c.in_ok-lock.ensures.lock ∙ ap (lying_lock c.args.lie.now) proof in
    on_ok (λ told. lock_can (g.A.Application.meaning) c.args.lie.now
    (proof_for c.args.self.now c.args.lie.now c.args.source) c.args.cannot.now c.args.self.now
    c.tell.new.self c.args.out.now
    c.tell.new.out (sym (ap length proof) ∙ count) (rw (lock, c.in_ok-proof.ensures.same) at told))
    c.tell.result c.tell.ensures.done
