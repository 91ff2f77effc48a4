use Rattle.std.proofs.Common.{◌∙◌, subst, sym}
use Rattle.cluster_files.specs.Descriptions.{Describes}
use Rattle.program.proofs.PublishingLemmas.{file_written}
use Rattle.program.proofs.publishing.publish.Goals as goal

pub returns-clause-written : goal.returns-clause-written
returns-clause-written g c =
    file_written c.args.cluster.now c.write_output.result _ _ c.as_bytes.result.now (
      c.in_ok-public.public,
      (
        c.in_ok-public.ensures,
        c.as_bytes.ensures.value ∙ c.in_ok-text.ensures.text,
        subst (λ t. Describes t c.in_ok-public.public) (sym c.as_bytes.ensures.value) c.in_ok-text.ensures.described,
      ),
    ) c.write_output.ensures.written
