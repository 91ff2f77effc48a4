use Rattle.std.proofs.Common.{◌++◌, sym, ap, ◌∙◌, arith}
use Rattle.std.proofs.lemmas.Grind.{common_steps}
use Rattle.std.specs.Prelude.{string_bytes}
use Rattle.cluster_service.proofs.ReportingLemmas.{next_line, no_line}
use Rattle.cluster_service.proofs.lines.commit_lines.Goals as goal

pub loop-replica-init : goal.loop-replica-init
loop-replica-init c = c.new-text.ensures.bytes ∙ sym no_line

pub loop-replica-preserved : goal.loop-replica-preserved
loop-replica-preserved c = next_line c.args.heights.now c.loop-replica.replica-counter _ _ c.loop-replica-test.true c.loop-replica.invariant
    (c.in_ok-push_str.ensures.bytes ∙ ap (λ l. string_bytes c.loop-replica.text ++ l) (c.deref.ensures ∙ c.in_ok-line.ensures.ok))

pub returns : goal.returns
returns c = grind (arith, common_steps)
