use Rattle.std.proofs.Common.{◌≡◌, ℕ, ◌<◌, map, ap, ◌∙◌, arith}
use Rattle.std.specs.Prelude.{IfOk, slice_index_or}
use Rattle.std.specs.List.{range_with_len}
use Rattle.std.proofs.lemmas.Result.{IfOk-weaker}
use Rattle.std.proofs.lemmas.Grind.{common_steps}
use Rattle.key_ring.specs.Signers.{SignerView}
use Rattle.cluster_setup.specs.Keys.{secret_of, unused}
use Rattle.cluster_setup.proofs.Collected.{collected}
use Rattle.cluster_setup.proofs.all.signers_in_parallel.Goals as goal

pub returns : goal.returns
returns g c =
    let f : ℕ → SignerView = λ r. unused (secret_of c.args.cluster.now r) in
    let each : (k : ℕ) (d : _) → k < c.from.result → IfOk (slice_index_or c.in_ok-made.made.items k d) (λ x. x ≡ f k) =
    λ k d lt. let met = (c.in_ok-made.ensures.each k d lt).1 in grind (arith, common_steps) in
    IfOk-weaker c.collect_signers.result _ _
    (λ signers all. collected f c.in_ok-made.made.items signers.items c.from.result all (omega (arith, c.in_ok-made.ensures.len)) each
    ∙ ap (λ n. map f (range_with_len 0 n)) c.from.ensures)
    c.collect_signers.ensures
