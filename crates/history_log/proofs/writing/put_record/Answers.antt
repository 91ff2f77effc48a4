use Rattle.std.proofs.Common.{◌++◌, List, ℕ, length, ap, ◌∙◌}
use Rattle.std.specs.Int.{w32, to_be_bytes}
use Rattle.history_log.specs.Records.{record_bytes}
use Rattle.history_log.proofs.writing.put_record.Goals as goal

pub returns-clause-ok : goal.returns-clause-ok
unfolding record_bytes
returns-clause-ok c =
    c.in_ok-put_parts.ensures.ok
    ∙ ap (λ (tag : List ℕ). c.args.out.now.items ++ (to_be_bytes w32 (length c.args.content.now) ++ c.args.content.now ++ tag))
    (c.as_bytes.ensures.bytes ∙ c.after-next.ensures)
