use Rattle.std.proofs.Common.{◌∙◌, Some, Err, ap, sym}
use Rattle.std.specs.Prelude.{string_bytes}
use Rattle.std.proofs.lemmas.Bool.{false≢true}
use Rattle.toml.specs.Data.{members_have_valid_dates}
use Rattle.cluster_files.specs.FileTables.{cluster_table}
use Rattle.cluster_files.proofs.KeyLists.{spelled_keys-keys_data}
use Rattle.cluster_files.proofs.LineTexts.{document_text}
use Rattle.cluster_files.proofs.Written.{shallow, table_says, valid_dates}
use Rattle.cluster_files.proofs.writing.text_of.Goals as goal

pub returns-in-Ok-clause-text : goal.returns-in-Ok-clause-text
returns-in-Ok-clause-text c =
    let same = c.in_ok-table.ensures.value in
    document_text c.args.cluster.now c.in_ok-table.ensures.bytes (string_bytes c.in-Ok.text) (rw same at c.in-Ok.ensures.text)

pub returns-in-Ok-clause-table : goal.returns-in-Ok-clause-table
returns-in-Ok-clause-table c =
    let same = c.in_ok-table.ensures.value in
    c.in-Ok.ensures.reads_back (rw same (shallow c.args.cluster.now)) ∙ ap Some same

pub returns-in-Ok-clause-described : goal.returns-in-Ok-clause-described
returns-in-Ok-clause-described c = record {
  table = cluster_table c.args.cluster.now;
  parsed = returns-in-Ok-clause-table c;
  says = table_says c.args.cluster.now (spelled_keys-keys_data c.args.cluster.now.ring c.in_ok-table.ensures.bytes);
}

pub unreachable-requires : goal.unreachable-requires
unreachable-requires c =
    false≢true (sym (c.in-Err-DateInvalid.ensures.dates.0 (ap Err c.in-Err-DateInvalid.field-0-is))
    ∙ ap members_have_valid_dates c.in_ok-table.ensures.value ∙ valid_dates c.args.cluster.now)
