use Rattle.std.proofs.Common.{rules}
use Rattle.lms_tree.proofs.key.PublicKey.from_bytes.Goals as goal

pub returns-then-is_none-clause-length : goal.returns-then-is_none-clause-length
returns-then-is_none-clause-length c = search rules

pub returns-then-is_none-clause-scheme : goal.returns-then-is_none-clause-scheme
returns-then-is_none-clause-scheme c = search rules

pub copy_from_slice-requires : goal.copy_from_slice-requires
copy_from_slice-requires c = search rules
